use Rattle.std.proofs.Common.{◌≡◌}
use Rattle.pg_workers_tests.proofs.tests.draws.drawn_again.Given as goal

abbrev pub invariant-loop-time : goal.invariant-loop-time
invariant-loop-time l = (l.ticket ≡ l.initial.ticket) × (l.drawn ≡ 0)
