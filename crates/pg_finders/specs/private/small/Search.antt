-- What a small search looks for: a good claim of a player in a subgame, of at most some number of vertices.
use Rattle.std.specs.Prelude.{ℕ, ◌≤◌, Bool, List, length}
use Rattle.pg_game.specs.declared.player.Player.{Player}
use Rattle.pg_game.specs.Graph.{Graph}
use Rattle.pg_game.specs.VertexSet.{VertexSet, members}
use Rattle.pg_dominion.specs.Claim.{ClaimRows, IsGoodIn}
use Rattle.pg_finders.specs.Finding.{AtMostInside, inner_degree}

pub record Search : Type 0 where
  pub graph : Graph
  pub inside : VertexSet
  pub player : Player
  pub bound : ℕ

-- the subgame has the vertices of a mask
abbrev pub search_in : Graph → List Bool → Player → ℕ → Search
search_in g mask p bound = record { graph = g; inside = members mask; player = p; bound = bound }

-- what the search looks for
pub record IsSmallClaim (s : Search) (claim : ClaimRows) : Type 0 where
  pub good : IsGoodIn s.graph s.inside s.player claim
  pub few : length claim ≤ s.bound

abbrev pub degree_in : Search → ℕ → ℕ
degree_in s v = inner_degree s.graph s.inside v

abbrev pub AtMostIn : Search → ℕ → Type 0
AtMostIn s degree = AtMostInside s.graph s.inside degree
