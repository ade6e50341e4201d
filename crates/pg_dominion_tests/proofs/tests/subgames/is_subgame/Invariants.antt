use Rattle.std.proofs.Common.{ℕ, ◌<◌}
use Rattle.pg_game.specs.Graph.{HasEdge}
use Rattle.pg_game.specs.VertexSet.{In, members}
use Rattle.pg_dominion_tests.proofs.tests.subgames.is_subgame.Given as goal

abbrev pub invariant-vertices : goal.invariant-vertices
invariant-vertices l = (u : ℕ) → u < l.v → In (members l.mask) u → (w : ℕ) × HasEdge l.game u w × In (members l.mask) w
