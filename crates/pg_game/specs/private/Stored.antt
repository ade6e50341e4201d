-- How a game is stored.
use Rattle.std.specs.Prelude.{ℕ, ◌≡◌, ◌<◌, ◌≤◌, List, length, All}
use Rattle.pg_game.specs.declared.player.Player.{Player}
use Rattle.pg_game.specs.Graph.{Graph, IsGame}
use Rattle.pg_game.specs.Limits.{IsWithinLimits}
use Rattle.pg_game.specs.Predecessors.{ArePredecessors}
use Rattle.pg_game.specs.private.Rows.{row_at}
use Rattle.pg_game.specs.View.{graph_of}
use Rattle.pg_game.specs.declared.specification.Spec.{Spec}
use Rattle.pg_game.specs.Specification.{AreNumbers, max_vertices}

-- specifications that may make a game: their numbers are within the limit, and so is how many there are
pub record AreWithinLimits (specs : List Spec) : Type 0 where
  pub numbers : All AreNumbers specs
  pub some : 0 < length specs
  pub few : length specs ≤ max_vertices

-- each part has one entry for each vertex
pub record AreParts (ids ps : List ℕ) (os : List Player) (rows : List (List ℕ)) : Type 0 where
  pub priorities : length ps ≡ length ids
  pub owners : length os ≡ length ids
  pub successors : length rows ≡ length ids

-- a game that is stored without its predecessors
pub record IsStored (ids ps : List ℕ) (os : List Player) (rows : List (List ℕ)) : Type 0 where
  pub parts : AreParts ids ps os rows
  pub game : IsGame (graph_of ids ps os rows)
  pub limits : IsWithinLimits (graph_of ids ps os rows)

-- each vertex has its predecessors
pub record HasPredecessors (g : Graph) (back : List (List ℕ)) : Type 0 where
  pub size : length back ≡ length g
  pub each : (v : ℕ) → v < length g → ArePredecessors g v (row_at back v)
