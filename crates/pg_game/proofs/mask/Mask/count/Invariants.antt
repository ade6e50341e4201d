use Rattle.pg_game.proofs.Common.{◌≡◌}
use Rattle.std.proofs.Common.{◌*◌}
use Rattle.pg_game.specs.Bits.{bits_of}
use Rattle.pg_game.specs.VertexSet.{how_many}
use Rattle.pg_game.proofs.mask.Mask.count.Given as goal

abbrev pub invariant-words : goal.invariant-words
invariant-words l = l.count ≡ how_many (bits_of l.word-items (64 * l.word-index))
