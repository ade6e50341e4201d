-- The active vertices of a subgame, its plan (the winner of each vertex, and the choices), and lists of vertices as sets.
use Rattle.std.specs.Prelude.{ℕ, ◌≡◌, ◌==◌, false, List, [], ◌∷◌, length, slice_index_or, Option, Some, None}
use Rattle.std.specs.List.{list_any}
use Rattle.pg_game.specs.VertexSet.{VertexSet, In, members}
use Rattle.pg_game.specs.declared.player.Player.{Player}
use Rattle.pg_game.specs.declared.player.Player.TheVariants.{Even}
use Rattle.pg_game.specs.Kept.{Choices}
use Rattle.pg_game.specs.Graph.{Graph, HasEdge}
use Rattle.pg_finders.specs.declared.recursion.subgame.Plan.{Plan}
use Rattle.pg_finders.specs.private.Solved.{Winners}
use Rattle.pg_finders.specs.declared.recursion.subgame.Subgame.{Subgame}

abbrev pub listed : List ℕ → VertexSet
listed vs v = list_any (λ u. u == v) vs

-- no number occurs twice
abbrev pub Once : List ℕ → Type 0
Once [] = Unit {0}
Once (v ∷ vs) = (listed vs v ≡ false) × Once vs

-- no number of the one list is in the other
abbrev pub Apart : List ℕ → List ℕ → Type 0
Apart xs ys = (v : ℕ) → In (listed xs) v → listed ys v ≡ false

-- the winner of the vertex, and the choice or none
abbrev pub row_of : Plan → ℕ → Player × Option ℕ
row_of plan v = slice_index_or plan.rows.items v (Even, None)

abbrev pub winners_of : Plan → Winners
winners_of plan v = (row_of plan v).0

abbrev pub choices_of : Plan → Choices
choices_of plan v = (row_of plan v).1

-- the plans say the same of the vertex
abbrev pub SameAt : Plan → Plan → ℕ → Type 0
SameAt old new v = (winners_of new v ≡ winners_of old v) × (choices_of new v ≡ choices_of old v)

-- and of each vertex that is not in the set
abbrev pub SameOutside : VertexSet → Plan → Plan → Type 0
SameOutside U old new = (v : ℕ) → U v ≡ false → SameAt old new v

-- the vertex is the player's, and its choice is a successor in the set
abbrev pub IsGiven : Graph → VertexSet → Player → Plan → ℕ → Type 0
IsGiven g U p plan v = (winners_of plan v ≡ p) × ((w : ℕ) × (choices_of plan v ≡ Some w) × HasEdge g v w × In U w)

abbrev pub active_of : Subgame → VertexSet
active_of x = members x.active

pub record HasSizes (n : ℕ) (x : Subgame) : Type 0 where
  pub active : length x.active ≡ n
  pub cursors : length x.cursors.places.items ≡ n
  pub plan : length x.plan.rows.items ≡ n
