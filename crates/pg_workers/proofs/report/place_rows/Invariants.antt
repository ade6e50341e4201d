use Rattle.pg_workers.proofs.Common.{◌≡◌, ◌+◌, take, settled_in, AreNotedRows}
use Rattle.pg_workers.proofs.report.place_rows.Given as goal

abbrev pub invariant-loop-row : goal.invariant-loop-row
invariant-loop-row l =
    AreNotedRows l.initial.report l.report (take l.row-index l.rows) ×
    (settled_in l.report ≡ settled_in l.initial.report + settled_in (take l.row-index l.rows))
