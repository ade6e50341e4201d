-- Identifiers that need no look-up.
use Rattle.std.specs.Prelude.{ℕ, ◌≡◌, ◌<◌, ◌^◌, List, length, slice_index}
use Rattle.std.specs.List.{range_with_len}
use Rattle.std.specs.List.Sorted.{IsStrictlyIncreasing}
use Rattle.pg_game.specs.declared.identifiers.Storage.{Storage}
use Rattle.pg_game.specs.declared.identifiers.Storage.TheVariants.{Own, Listed}

-- each number is at the place that is its own
abbrev pub AreOwnPlaces : List ℕ → Type 0
AreOwnPlaces ids = (v : ℕ) → v < length ids → slice_index ids v ≡ v

-- the identifiers that a game keeps
abbrev pub names_of : Storage → List ℕ
names_of (Own count) = range_with_len 0 count
names_of (Listed ids) = ids.keys

-- they rise, and their number is one that a vertex may have
pub record AreNames (ids : List ℕ) : Type 0 where
  pub rising : IsStrictlyIncreasing ids
  pub short : length ids < 2 ^ 32
