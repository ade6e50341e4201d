use Rattle.std.proofs.Common.{ℕ, ◌<◌}
use Rattle.pg_game.specs.VertexSet.{In, members}
use Rattle.pg_dominion_tests.proofs.tests.subgames.is_within.Given as goal

abbrev pub invariant-vertices : goal.invariant-vertices
invariant-vertices l = (u : ℕ) → u < l.v → In (members l.first) u → In (members l.second) u
