use Rattle.pg_dominion.proofs.Common.{◌≡◌, ℕ, Bool, ◌∙◌, ap, subst, arith, Option, Graph, IsGame, is_bad, winner_of}
use Rattle.pg_dominion.specs.KeptEdges.{IsKeptWith}
use Rattle.pg_dominion.proofs.Strategies.{none_below, strategy_none}
use Rattle.pg_dominion.proofs.solution.KeptEdges.{own_choice, own_below, vertex_is_kept}
use Rattle.pg_dominion.proofs.solution.joint_strategy.Goals as goal

pub vertices-init : goal.vertices-init
vertices-init c = record {
  game = c.in_ok-kept.ensures.game;
  strategy = strategy_none _ _ _ _ c.in_ok-kept.ensures.nothing none_below;
}

pub keep-requires-clause-choice : goal.keep-requires-clause-choice
keep-requires-clause-choice c =
    let g = c.args.candidate.now.game.now in
    let game = subst (λ (x : Graph). IsGame x) c.vertices.invariant.game c.vertices.kept.shape.game in
    rw c.vertices.invariant.game (own_below g c.args.candidate.now.solution.now.rows game c.requires.right c.vertices.v (omega arith) c.own_choice-own.result
    (rw (c.row_at-winner.ensures.winner, c.row_at-winner.ensures.choice) at c.own_choice-own.ensures))

pub vertices-preserved : goal.vertices-preserved
vertices-preserved c =
    let g = c.args.candidate.now.game.now in
    let rows = c.args.candidate.now.solution.now.rows in
    let v = c.vertices.v in
    let k = c.vertices.kept in
    let k' = c.keep.new.self in
    let own : c.own_choice-own.result ≡ own_choice g rows v = rw (c.row_at-winner.ensures.winner, c.row_at-winner.ensures.choice) at c.own_choice-own.ensures in
    let bad : c.is_bad.result ≡ is_bad g (winner_of rows v) v = c.is_bad.ensures ∙ ap (λ p. is_bad g p v) c.row_at-winner.ensures.winner in
    record {
      game = c.keep.ensures.game ∙ c.vertices.invariant.game;
      strategy = vertex_is_kept g rows c.requires.choices v (omega arith) k k' c.vertices.invariant.game
          (subst (λ (b : Bool). IsKeptWith k v b (own_choice g rows v) k') bad
          (subst (λ (o : Option ℕ). IsKeptWith k v c.is_bad.result o k') own c.keep.ensures)) c.vertices.invariant.strategy;
    }
