-- The queue of a search against the edges.
use Rattle.std.specs.Prelude.{ℕ, ◌≡◌, ◌≤◌, ◌<◌, ◌⊎◌, Bool, List, length, slice_index}
use Rattle.pg_game.specs.Graph.{Graph}
use Rattle.pg_game.specs.VertexSet.{In, Within, members}

-- the queue has the goal and each vertex that is taken, and no others
pub record IsQueue (g : Graph) (goal : ℕ) (taken : List Bool) (queue : List ℕ) : Type 0 where
  pub below : (i : ℕ) → i < length queue → slice_index queue i < length g
  pub only : (i : ℕ) → i < length queue → (slice_index queue i ≡ goal) ⊎ In (members taken) (slice_index queue i)
  pub start : (i : ℕ) × (i < length queue) × (slice_index queue i ≡ goal)
  pub known : (v : ℕ) → In (members taken) v → (i : ℕ) × (i < length queue) × (slice_index queue i ≡ v)

-- taken vertices stay taken, and the queue grows
pub record Follows (taken : List Bool) (queue : List ℕ) (taken' : List Bool) (queue' : List ℕ) : Type 0 where
  pub grows : Within (members taken) (members taken')
  pub longer : length queue ≤ length queue'
  pub prefix : (i : ℕ) → i < length queue → slice_index queue' i ≡ slice_index queue i
