-- Lists of numbers in compressed sparse rows (private).
use Rattle.std.specs.Prelude.{ℕ, ◌≡◌, ◌+◌, ◌<◌, ◌≤◌, ◌^◌, ◌↔◌, List, [], length, sum_by, slice_index, slice_index_or, Contains}
use Rattle.std.specs.List.Sorted.{IsStrictlyIncreasing}

-- offsets rise from 0 to the number of targets
pub record IsCompressed (offsets targets : List ℕ) : Type 0 where
  pub nonempty : 0 < length offsets
  pub first : slice_index offsets 0 ≡ 0
  pub rising : (k : ℕ) → k + 1 < length offsets → slice_index offsets k ≤ slice_index offsets (k + 1)
  pub within : (k : ℕ) → k < length offsets → slice_index offsets k ≤ length targets
  pub last : (k : ℕ) → k + 1 ≡ length offsets → slice_index offsets k ≡ length targets

-- the number of targets of all rows
abbrev pub size_of : List (List ℕ) → ℕ
size_of rows = sum_by (λ row. length row) rows

abbrev pub row_at : List (List ℕ) → ℕ → List ℕ
row_at rows v = slice_index_or rows v []

-- each row rises, and has only numbers of rows, which have 32 bits
pub record AreRisingRows (rows : List (List ℕ)) : Type 0 where
  pub few : length rows < 2 ^ 32
  pub below : (v k : ℕ) → v < length rows → k < length (row_at rows v) → slice_index (row_at rows v) k < length rows
  pub rising : (v : ℕ) → v < length rows → IsStrictlyIncreasing (row_at rows v)

-- rising, and exactly the rows that have w
pub record AreSources (rows : List (List ℕ)) (w : ℕ) (us : List ℕ) : Type 0 where
  pub rising : IsStrictlyIncreasing us
  pub exact : (u : ℕ) → Contains us u ↔ Contains (row_at rows u) w
