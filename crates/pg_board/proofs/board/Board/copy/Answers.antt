use Rattle.pg_board.proofs.Common.{◌≡◌, ◌∙◌, ℕ, length, sym, subst, ap, arith, List, Bool, fun_ext, Graph, VertexSet, members, IsSubgame}
use Rattle.pg_board.specs.Board.{IsCopyOf}
use Rattle.pg_board.proofs.Common.{rules, IsGoodIn, BoardRecord, State, unsettled, state_of, IsDominionAfter, VertexState, table_state}
use Rattle.pg_board.proofs.Numbers.{lawful_now}
use Rattle.pg_board.proofs.Copies.{dominion_now}
use Rattle.pg_board.proofs.board.Board.copy.Goals as goal

-- the mask has the unsettled vertices
same_set : (g : Graph) (st : State) (table : List VertexState) (old new : List Bool) → new ≡ old
    → ((v : ℕ) → members old v ≡ unsettled g (table_state table) v) → ((v : ℕ) → table_state table v ≡ st v) → unsettled g st ≡ members new
same_set g st table old new e mask state = fun_ext (λ v. sym (ap (λ m. members m v) e ∙ (mask v ∙ ap (λ (s : State). unsettled g s v) (fun_ext state))))

pub of_subgame-requires-clause-subgame : goal.of_subgame-requires-clause-subgame
of_subgame-requires-clause-subgame c =
    let b = c.self.inside.contents in let g = c.self.inside.game.now in let i = c.self.invariant in
    subst (λ (U : VertexSet). IsSubgame g U)
    (same_set g (state_of b.entries.items) b.regions.table.items b.regions.unsettled c.in_ok-mask.mask c.in_ok-mask.ensures i.regions.mask i.state)
    (lawful_now g b.entries.items i.lawful).open_part

pub returns : goal.returns
returns c =
    let b = c.self.inside.contents in let g = c.self.inside.game.now in let i = c.self.invariant in
    let same = same_set g (state_of b.entries.items) b.regions.table.items b.regions.unsettled c.of_subgame.result.mask
    (c.of_subgame.ensures.mask ∙ c.in_ok-mask.ensures) i.regions.mask i.state in
    let entries : c.len.result ≡ length b.entries.items = omega (arith, c.len.ensures, b.entries.ok.0) in
    subst (λ (x : BoardRecord). IsCopyOf x (record { inside = c.of_subgame.result; at = c.len.result; settled = c.settled.result })) c.self.view_is
    (record {
      graph = c.of_subgame.ensures.graph;
      mask = λ v. sym (ap (λ (U : VertexSet). U v) same);
      part = c.of_subgame.ensures.part;
      entries = entries;
      number = search (rules, c.self.view_is);
      dominions = λ p rows good. subst (λ (n : ℕ). IsDominionAfter g b.entries.items n p rows) (sym entries)
          (dominion_now g i.game b.entries.items i.lawful p rows (subst (λ (U : VertexSet). IsGoodIn g U p rows) (sym same) good));
    })
