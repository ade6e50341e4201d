use Rattle.std.proofs.Common.{◌≡◌, ◌-◌, length}
use Rattle.pg_workers_tests.proofs.tests.draws.draw_all.Given as goal

abbrev pub invariant-loop-number : goal.invariant-loop-number
invariant-loop-number l = (l.ticket.series ≡ l.jobs.series) × (l.ticket.series ≡ l.initial.ticket.series)

abbrev pub decreases-loop-number : goal.decreases-loop-number
decreases-loop-number l = l.ticket.series.total - length l.ticket.numbers
