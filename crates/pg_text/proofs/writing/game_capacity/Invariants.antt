use Rattle.pg_text.proofs.Common.{◌≤◌, ◌+◌, ◌*◌, length, drop, written_vertex}
use Rattle.std.proofs.Common.{flat_map}
use Rattle.pg_text.proofs.writing.game_capacity.Given as goal

abbrev pub invariant-lines : goal.invariant-lines
invariant-lines l = l.capacity + 6 * length (flat_map (written_vertex l.game) (drop l.v l.game)) ≤ 22 + 6 * length (flat_map (written_vertex l.game) l.game)
