use Rattle.pg_workers.proofs.Common.{◌<◌, rules, get_or, length, arith, ReportRow, blank_row}
use Rattle.pg_workers.proofs.report.PlacedRows.{next_row, next_place, next_placed, next_settled}
use Rattle.pg_workers.proofs.report.place_rows.Goals as goal

pub bounds-report-row : goal.bounds-report-row
bounds-report-row c = next_place (next_row c.loop-row.row-index c.requires c.loop-row-test.true c.loop-row.invariant.0)

pub offset_bounds-report-row : goal.offset_bounds-report-row
offset_bounds-report-row c =
    let row : ReportRow = get_or c.args.rows.now c.loop-row.row-index (blank_row 0) in
    let below : row.job < length c.loop-row.report = next_place (next_row c.loop-row.row-index c.requires c.loop-row-test.true c.loop-row.invariant.0) in
    first_of (omega arith, search rules)

pub loop-row-preserved : goal.loop-row-preserved
loop-row-preserved c =
    let n = next_row c.loop-row.row-index c.requires c.loop-row-test.true c.loop-row.invariant.0 in
    (next_placed n, next_settled n c.loop-row.invariant.1)
