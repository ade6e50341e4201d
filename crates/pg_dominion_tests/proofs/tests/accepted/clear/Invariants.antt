use Rattle.std.proofs.Common.{◌≡◌, length}
use Rattle.pg_dominion_tests.proofs.tests.accepted.clear.Given as goal

abbrev pub invariant-numbers : goal.invariant-numbers
invariant-numbers l = length l.mask ≡ length l.initial.mask
