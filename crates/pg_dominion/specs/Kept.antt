-- The tables of the edges that are kept of a game.
use Rattle.std.specs.Prelude.{ℕ, ◌≡◌, ◌<◌, Bool, List, length, slice_index}
use Rattle.pg_game.specs.Graph.{Graph, IsGame}
use Rattle.pg_game.specs.Limits.{IsWithinLimits}
use Rattle.pg_game.specs.VertexSet.{In, members}

-- the graph is a game within the limits; the masks i, c and b and the choices ws have one place for each vertex, and each choice is a vertex
pub record IsKept (g : Graph) (i c : List Bool) (ws : List ℕ) (b : List Bool) : Type 0 where
  pub game : IsGame g
  pub limits : IsWithinLimits g
  pub inside : length i ≡ length g
  pub chosen : length c ≡ length g
  pub choices : length ws ≡ length g
  pub bad : length b ≡ length g
  pub below : (v : ℕ) → In (members c) v → slice_index ws v < length g
