use Rattle.pg_text.proofs.Common.{◌≡◌, ◌++◌, drop, written_game, written_vertex}
use Rattle.std.proofs.Common.{flat_map}
use Rattle.pg_text.proofs.writing.write_forward_game.Given as goal

abbrev pub invariant-vertices : goal.invariant-vertices
invariant-vertices l = l.out.items ++ flat_map (written_vertex l.game) (drop l.v l.game) ≡ written_game l.game
