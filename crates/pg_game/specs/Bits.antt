-- Words of 64 bits as lists of truth values.
use Rattle.std.specs.Prelude.{ℕ, ◌/◌, ◌%◌, Bool, List, map, ◌==◌, slice_index}
use Rattle.std.specs.List.{range_with_len}
use Rattle.std.specs.Int.{bit_at}

-- bit v of the words, counted from the lowest of the first
abbrev pub bit_of : List ℕ → ℕ → Bool
bit_of words v = bit_at (slice_index words (v / 64)) (v % 64) == 1

-- the first n bits
unfoldable pub bits_of : List ℕ → ℕ → List Bool
bits_of words n = map (bit_of words) (range_with_len 0 n)
