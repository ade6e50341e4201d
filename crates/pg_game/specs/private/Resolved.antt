-- Identifiers, and their places in a list.
use Rattle.std.specs.Prelude.{ℕ, ◌≡◌, ◌<◌, ◌≤◌, ◌⊎◌, List, length, slice_index, slice_index_or, Contains}
use Rattle.std.specs.List.Sorted.{IsStrictlyIncreasing}
use Rattle.pg_game.specs.declared.specification.Spec.{Spec}

-- each number is the place of the identifier
pub record AreNamed (ids row places : List ℕ) : Type 0 where
  pub size : length places ≡ length row
  pub each : (k : ℕ) → k < length row → (slice_index places k < length ids) × (slice_index ids (slice_index places k) ≡ slice_index row k)

-- the same between two indices, and the others are unchanged
pub record AreNamedFrom (ids old new : List ℕ) (from to : ℕ) : Type 0 where
  pub each : (k : ℕ) → from ≤ k → k < to → (slice_index new k < length ids) × (slice_index ids (slice_index new k) ≡ slice_index old k)
  pub others : (k : ℕ) → (k < from) ⊎ (to ≤ k) → slice_index new k ≡ slice_index old k

-- rising, and the places of all successors and of nothing else
pub record AreAllPlaces (ids successors places : List ℕ) : Type 0 where
  pub rising : IsStrictlyIncreasing places
  pub from : (w : ℕ) → Contains places w → (w < length ids) × Contains successors (slice_index ids w)
  pub all : (i : ℕ) → Contains successors i → (w : ℕ) × Contains places w × (slice_index ids w ≡ i)

-- the same specification with places for successors
pub record IsResolvedSpec (ids : List ℕ) (s t : Spec) : Type 0 where
  pub id : t.id ≡ s.id
  pub priority : t.priority ≡ s.priority
  pub owner : t.owner ≡ s.owner
  pub successors : AreAllPlaces ids s.successors t.successors

pub record AreResolvedSpecs (ids : List ℕ) (specs resolved : List Spec) : Type 0 where
  pub size : length resolved ≡ length specs
  pub each : (v : ℕ) (d : Spec) → v < length specs → IsResolvedSpec ids (slice_index_or specs v d) (slice_index_or resolved v d)
