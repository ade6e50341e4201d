use Rattle.pgboard.proofs.Common.{◌≡◌, ◌++◌, drop, flat_map, job_line}
use Rattle.pgboard.proofs.trace.put_jobs.Given as goal

abbrev pub invariant-loop-row : goal.invariant-loop-row
invariant-loop-row l = l.out.items ++ flat_map job_line (drop l.row-index l.report) ≡ l.fn.out.items ++ flat_map job_line l.report
