use Rattle.pg_board.proofs.Common.{rules, ℕ, inl, inr, sym, subst, union, named, settled, table_state, EndsOutside, row_at}
use Rattle.pg_game.proofs.Rows.{below_or_last}
use Rattle.pg_board.proofs.regions.KeptEdgesOfRows.{none_outside, first_outside}
use Rattle.pg_board.proofs.regions.Bounds.first_edge.Goals as goal

pub returns-in-Some : goal.returns-in-Some
returns-in-Some c = search (rules, first_outside, c.requires, c.rows-test.true, c.rows.invariant, c.in-Some.ensures)

pub rows-preserved : goal.rows-preserved
rows-preserved c = λ k w l.
    let b = c.args.self.now in
    let S = union (named b.rest.now) (settled (table_state b.regions.now.table.items) b.player) in
    elim (below_or_last c.rows.row-index k l) [
      | inl less ↦ c.rows.invariant k w less
      | inr same ↦ subst (λ (i : ℕ). EndsOutside b.game.now b.player S (row_at b.rest.now i) w → ⊥) (sym same) (λ h. c.in_default.ensures w h)
    ]

pub returns : goal.returns
returns c = search (rules, none_outside, c.requires, c.rows-test.false, c.rows.invariant)
