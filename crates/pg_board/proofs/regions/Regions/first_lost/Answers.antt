use Rattle.std.proofs.Common.{rules}
use Rattle.pg_board.proofs.Common.{◌≡◌, true, sym, ◌∙◌, settled, table_state, row_at}
use Rattle.pg_board.proofs.regions.FirstLost.{none_lost, least_lost}
use Rattle.pg_board.proofs.regions.Regions.first_lost.Goals as goal

pub returns-then-is_settled_for : goal.returns-then-is_settled_for
returns-then-is_settled_for c =
    let st = table_state c.args.self.now.table.items in
    let claim = c.args.claim.now in
    let e = c.as_slice-row-items.ensures in
    let i = c.rows.row-index in
    let here : settled st c.other-opponent.result (row_at c.as_slice-row-items.result.now i).0 ≡ true =
    sym c.is_settled_for.ensures ∙ c.if-is_settled_for.true in
    rw e (least_lost st claim.player claim.rows i (rw e at c.rows-test.true) c.requires
    (rw (e, c.other-opponent.ensures) at c.rows.invariant) (rw (e, c.other-opponent.ensures) at here))

pub returns : goal.returns
returns c =
    let e = c.as_slice-row-items.ensures in
    none_lost (table_state c.args.self.now.table.items) c.args.claim.now.player c.args.claim.now.rows c.rows.row-index (rw e at c.rows-test.false)
    (rw (e, c.other-opponent.ensures) at c.rows.invariant)

pub rows-preserved : goal.rows-preserved
rows-preserved c = search rules
