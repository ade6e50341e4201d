-- A few rows in an array, and the least of their vertices from a number on.
use Rattle.std.specs.Prelude.{ℕ, ◌≡◌, ◌≤◌, ◌<◌, ◌%◌, List, length, slice_index_or, Option}
use Rattle.std.specs.Int.{bit_at}
use Rattle.pg_game.specs.VertexSet.{In}
use Rattle.pg_dominion.specs.Claim.{ClaimRows, row_at, named}

-- the first of eight, up to this number
pub record IsFew (rows : List (ℕ × Option ℕ)) (len : ℕ) : Type 0 where
  pub size : length rows ≡ 8
  pub within : len ≤ 8

-- the word at each place has the bits of the vertices before it
pub record HaveBits (rows : List (ℕ × Option ℕ)) (len : ℕ) (words : List ℕ) : Type 0 where
  pub size : length words ≡ 9
  pub each : (j k : ℕ) → j < k → k ≤ len → bit_at (slice_index_or words k 0) ((row_at rows j).0 % 64) ≡ 1

-- the place of the least vertex that is not below the number
pub record IsLeastFrom (rows : ClaimRows) (low at : ℕ) : Type 0 where
  pub within : at < length rows
  pub from : low ≤ (row_at rows at).0
  pub least : (v : ℕ) → In (named rows) v → low ≤ v → (row_at rows at).0 ≤ v
