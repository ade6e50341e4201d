use Rattle.pg_workers.proofs.Common.{◌≡◌, vec_len, vec_capacity, AreBlank}
use Rattle.pg_workers.proofs.report.blank_report.Given as goal

abbrev pub invariant-loop-job : goal.invariant-loop-job
invariant-loop-job l = (vec_len l.report ≡ l.job) × (vec_capacity l.report ≡ l.total) × AreBlank l.report.items
