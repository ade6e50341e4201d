use Rattle.pgboard.proofs.Common.{length, None, all_at, row_line, NamesVertices}
use Rattle.pgboard.proofs.trace.ItemTexts.{one_more}
use Rattle.pgboard.proofs.trace.put_rows.Goals as goal

pub put_row-requires : goal.put_row-requires
put_row-requires c =
    all_at (NamesVertices (length c.args.game.now)) c.args.rows.now c.loop-row.row-index (0, None) c.requires c.loop-row-test.true

pub loop-row-preserved : goal.loop-row-preserved
loop-row-preserved c =
    one_more (row_line c.args.game.now) c.args.rows.now c.loop-row.row-index (0, None) c.loop-row.out.items c.put_row.new.out.items _ c.loop-row-test.true
    c.in_ok-put_row.ensures c.loop-row.invariant
