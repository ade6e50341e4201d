use Rattle.pg_workers.proofs.Common.{◌≡◌, ◌+◌, take, vec_len, settled_in, AreNotedRows, rows_in}
use Rattle.pg_workers.proofs.report.with_rows.Given as goal

abbrev pub invariant-loop-rows : goal.invariant-loop-rows
invariant-loop-rows l =
    (vec_len l.report ≡ vec_len l.initial.report)
    × AreNotedRows l.initial.report.items l.report.items (rows_in (take l.rows-index l.all))
    × (settled_in l.report.items ≡ settled_in l.initial.report.items + settled_in (rows_in (take l.rows-index l.all)))
