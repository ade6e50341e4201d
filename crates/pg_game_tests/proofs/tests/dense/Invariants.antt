use Rattle.std.specs.Prelude.{All}
use Rattle.pg_game.specs.Specification.{AreNumbers}
use Rattle.pg_game_tests.proofs.tests.dense.Given as goal

abbrev pub invariant-vertices : goal.invariant-vertices
invariant-vertices l = All AreNumbers l.specs.items
