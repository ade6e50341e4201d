use Rattle.pg_board.proofs.Common.{rules, ◌∙◌, ap, length, false, length-set, members, row_at}
use Rattle.pg_dominion.proofs.RowsByPlace.{named_at}
use Rattle.pg_board.proofs.regions.RowsInMasks.{members_removed}
use Rattle.pg_board.proofs.regions.remove_named.Goals as goal

pub remove-requires : goal.remove-requires
remove-requires c = search (rules, c.requires, named_at, c.rows-test.true, c.rows.invariant.length)

pub rows-preserved : goal.rows-preserved
rows-preserved c =
    let old = c.rows.invariant in
    let i = c.rows.row-index in
    let rows = c.args.rows.now in
    record {
      length = ap length c.remove.ensures ∙ (length-set c.rows.mask (row_at rows i).0 false ∙ old.length);
      members = members_removed c.rows.mask c.remove.new.self (members c.args.mask.now) rows i c.rows-test.true c.remove.ensures old.members;
    }
