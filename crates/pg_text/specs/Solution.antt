-- Solutions of a game: winners and choices for all vertices.
use Rattle.std.specs.Prelude.{ℕ, ◌≡◌, ◌≢◌, ◌<◌, ◌↔◌, ◌&&◌, nat_lt, List, length, Option, None, IfSome, slice_index_or}
use Rattle.std.specs.List.{AllByRecursion}
use Rattle.pg_game.specs.declared.player.Player.{Player}
use Rattle.pg_game.specs.declared.player.Player.TheVariants.{Even}
use Rattle.pg_game.specs.Player.{same_player}
use Rattle.pg_game.specs.Graph.{Graph, owner_of}
use Rattle.pg_game.specs.VertexSet.{VertexSet}
use Rattle.pg_game.specs.Kept.{Choices}
use Rattle.pg_game.specs.Region.{IsRegion, Wins}

-- for each vertex its winner, and a choice or none
abbrev pub SolutionRows : Type 0
SolutionRows = List (Player × Option ℕ)

abbrev pub winner_of : SolutionRows → ℕ → Player
winner_of rows v = (slice_index_or rows v (Even, None)).0

abbrev pub choice_of : SolutionRows → Choices
choice_of rows v = (slice_index_or rows v (Even, None)).1

-- the vertices that the player wins
abbrev pub won_by : SolutionRows → Player → VertexSet
won_by rows p v = nat_lt v (length rows) && same_player (winner_of rows v) p

-- each player's vertices are a region of his, with the choices there
pub record IsSolution (g : Graph) (rows : SolutionRows) : Type 0 where
  pub size : length rows ≡ length g
  pub regions : (p : Player) → IsRegion g p (won_by rows p) (choice_of rows)

-- a solution with a choice exactly at the vertices that their winners own, whose winners are those of the game
pub record IsExactSolution (g : Graph) (rows : SolutionRows) : Type 0 where
  pub solution : IsSolution g rows
  pub choices : (v : ℕ) → v < length g → owner_of g v ≢ winner_of rows v → choice_of rows v ≡ None
  pub winners : (p : Player) (v : ℕ) → v < length g → (winner_of rows v ≡ p) ↔ Wins g p v

-- one row for each vertex, and each choice a vertex
pub record AreSolutionRows (g : Graph) (rows : SolutionRows) : Type 0 where
  pub size : length rows ≡ length g
  pub choices : AllByRecursion (λ r. IfSome r.1 (λ w. w < length g)) rows
