-- The lines of specifications, by rising identifier.
use Rattle.std.specs.Prelude.{ℕ, ◌≡◌, ◌<◌, List, length, slice_index, slice_index_or}
use Rattle.std.specs.List.Sorted.{IsPermutation, IsNonDecreasingBy}

-- pairs of each identifier and its line, in any order
pub record ArePaired (ids : List ℕ) (lines : List (ℕ × ℕ)) : Type 0 where
  pub before : List (ℕ × ℕ)
  pub size : length before ≡ length ids
  pub each : (k : ℕ) (d : ℕ × ℕ) → k < length ids → slice_index_or before k d ≡ (slice_index ids k, k)
  pub moved : IsPermutation before lines

pub record AreLines (ids : List ℕ) (lines : List (ℕ × ℕ)) : Type 0 where
  pub paired : ArePaired ids lines
  pub rising : IsNonDecreasingBy (λ line. line.0) lines
