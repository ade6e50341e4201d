-- The limits of a game.
use Rattle.std.specs.Prelude.{ℕ, ◌<◌, ◌≤◌, length, sum_by}
use Rattle.pg_game.specs.Graph.{Graph, id_of, priority_of}
use Rattle.pg_game.specs.Specification.{max_number, max_vertices, max_edges}

pub record IsWithinLimits (g : Graph) : Type 0 where
  pub vertices : length g ≤ max_vertices
  pub edges : sum_by (λ x. length x.successors) g ≤ max_edges
  pub ids : (v : ℕ) → v < length g → id_of g v ≤ max_number
  pub numbers : (v : ℕ) → v < length g → priority_of g v ≤ max_number
