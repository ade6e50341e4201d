use Rattle.pg_board.proofs.Common.{rules, ◌∙◌, ap, length, true, length-set, members, row_at}
use Rattle.pg_dominion.proofs.RowsByPlace.{named_at}
use Rattle.pg_board.proofs.regions.RowsInMasks.{members_put}
use Rattle.pg_board.proofs.regions.insert_named.Goals as goal

pub insert-requires : goal.insert-requires
insert-requires c = search (rules, c.requires, named_at, c.rows-test.true, c.rows.invariant.length)

pub rows-preserved : goal.rows-preserved
rows-preserved c =
    let old = c.rows.invariant in
    let i = c.rows.row-index in
    let rows = c.args.rows.now in
    let below = c.requires (row_at rows i).0 (named_at rows i c.rows-test.true) in
    record {
      length = ap length c.insert.ensures ∙ (length-set c.rows.mask (row_at rows i).0 true ∙ old.length);
      members = members_put c.rows.mask c.insert.new.self (members c.args.mask.now) rows i c.rows-test.true below old.length c.insert.ensures old.members;
    }
