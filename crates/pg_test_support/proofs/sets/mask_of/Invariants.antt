use Rattle.std.proofs.Common.{◌≡◌, length}
use Rattle.pg_test_support.proofs.sets.mask_of.Given as goal

abbrev pub invariant-vertices : goal.invariant-vertices
invariant-vertices l = length l.mask ≡ l.n
