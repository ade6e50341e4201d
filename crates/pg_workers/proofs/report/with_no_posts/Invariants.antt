use Rattle.pg_workers.proofs.Common.{◌≡◌, ◌++◌, take, drop, map, vec_len}
use Rattle.pg_workers.specs.private.Report.{without_posts}
use Rattle.pg_workers.proofs.report.with_no_posts.Given as goal

abbrev pub invariant-loop-k : goal.invariant-loop-k
invariant-loop-k l =
    (vec_len l.report ≡ vec_len l.initial.report)
    × (l.report.items ≡ map without_posts (take l.k l.initial.report.items) ++ drop l.k l.initial.report.items)
