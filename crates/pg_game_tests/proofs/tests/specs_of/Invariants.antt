use Rattle.std.specs.Prelude.{All}
use Rattle.pg_game.specs.Specification.{AreNumbers}
use Rattle.pg_game_tests.proofs.tests.specs_of.Given as goal

abbrev pub invariant-rows : goal.invariant-rows
invariant-rows l = All AreNumbers l.specs.items
