use Rattle.pg_dominion.proofs.Common.{In}
use Rattle.pg_game.specs.VertexSet.{members}
use Rattle.std.proofs.lemmas.Result.{IfOk-weaker}
use Rattle.pg_dominion.proofs.SearchSteps.{OnTop-from_reaches, Reaches-from_top}
use Rattle.pg_dominion.proofs.cycles.Searches.find_bad_cycle.Goals.{then-not-has-via-then-not-has, then-not-has-via-else-not-has+then-is_alone}
use Rattle.pg_dominion.proofs.cycles.Searches.find_bad_cycle.Goals as goal

pub returns-then-not-has-clause-bad_cycle : goal.returns-then-not-has-clause-bad_cycle
returns-then-not-has-clause-bad_cycle c = (
  λ t. absurd (cc t),
  λ w. elim c.then-not-has.branch [
    | then-not-has-via-then-not-has b ↦ absurd (cc (w.0, c.has.ensures, b.if-not-has.true))
    | then-not-has-via-else-not-has+then-is_alone b ↦
        absurd (b.is_alone.ensures b.if-is_alone.true (Reaches-from_top c.args.self.now.labels.kept.now c.args.v w.1))
  ],
)

pub returns-clause-bad_cycle : goal.returns-clause-bad_cycle
returns-clause-bad_cycle c =
    let k = c.args.self.now.labels.kept.now in
    let bad : In (members k.bad) c.args.v = cc (c.has.ensures, c.if-not-has.false) in
    IfOk-weaker c.walks_back.result _ _ (λ found back. (
      λ t. (bad, OnTop-from_reaches k c.args.v (back.0 t)),
      λ w. back.1 (Reaches-from_top k c.args.v w.1),
    )) c.walks_back.ensures.back
