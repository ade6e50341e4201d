use Rattle.std.proofs.Common.{◌≡◌}
use Rattle.pg_dominion_tests.proofs.tests.kept.all_edges.Given as goal

abbrev pub invariant-vertices : goal.invariant-vertices
invariant-vertices g l = l.kept.game.now ≡ l.game
