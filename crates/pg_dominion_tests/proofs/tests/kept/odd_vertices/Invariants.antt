use Rattle.std.proofs.Common.{◌≡◌, length}
use Rattle.pg_dominion_tests.proofs.tests.kept.odd_vertices.Given as goal

abbrev pub invariant-vertices : goal.invariant-vertices
invariant-vertices g l = length l.odd ≡ l.n
