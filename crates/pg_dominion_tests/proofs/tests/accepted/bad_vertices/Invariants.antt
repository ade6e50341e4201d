use Rattle.std.proofs.Common.{◌≡◌, length}
use Rattle.pg_dominion_tests.proofs.tests.accepted.bad_vertices.Given as goal

abbrev pub invariant-parts : goal.invariant-parts
invariant-parts g l = length l.bad ≡ l.n
