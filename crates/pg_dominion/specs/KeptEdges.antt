-- The kept edges of a game, how those of one vertex more are kept, and what a strategy graph keeps of players' choices.
use Rattle.std.specs.Prelude.{ℕ, ◌≡◌, ◌≢◌, ◌&&◌, Bool, false, Option, Some, None, List, [], ◌∷◌, slice_index, Contains, if◌then◌else◌}
use Rattle.pg_game.specs.declared.player.Player.{Player}
use Rattle.pg_game.specs.Player.{same_player, opponent, of_parity}
use Rattle.pg_game.specs.Graph.{Graph, owner_of, priority_of, successors_of}
use Rattle.pg_game.specs.Kept.{Choices, kept}
use Rattle.pg_game.specs.VertexSet.{VertexSet, In, members}
use Rattle.pg_game.specs.Walk.{ClosedWalk, greatest_priority}
use Rattle.pg_dominion.specs.declared.strategy_graph.StrategyGraph.{StrategyGraph}

-- where the kept edges of a vertex with this choice end: in the choice alone, or without one in all successors
abbrev pub ends_at : Graph → ℕ → Option ℕ → List ℕ
ends_at g v None = successors_of g v
ends_at g v (Some w) = w ∷ []

-- the choice at the player's vertices, and none elsewhere
abbrev pub own_choices : Graph → Player → Choices → Choices
own_choices g p s v = if same_player (owner_of g v) p then s v else None

-- the vertex's priority has the parity of the player's opponent
abbrev pub is_bad : Graph → Player → ℕ → Bool
is_bad g p v = same_player (of_parity (priority_of g v)) (opponent p)

abbrev pub kept_row : StrategyGraph → ℕ → List ℕ
kept_row k v = if members k.chosen v then slice_index k.choices.items v ∷ [] else (if members k.inside v then successors_of k.game.now v else [])

abbrev pub Edge : StrategyGraph → ℕ → ℕ → Type 0
Edge k v w = Contains (kept_row k v) w

-- the vertex is the greatest on a closed walk through it
abbrev pub OnTop : StrategyGraph → ℕ → Type 0
OnTop k v = (vs : List ℕ) × ClosedWalk (Edge k) (v ∷ vs) × (priority_of k.game.now v ≡ greatest_priority k.game.now (v ∷ vs))

-- a bad vertex that is the greatest on a closed walk through it
abbrev pub IsOnBadCycle : StrategyGraph → ℕ → Type 0
IsOnBadCycle k v = In (members k.bad) v × OnTop k v

-- the choice that is kept of a vertex
abbrev pub kept_choice : StrategyGraph → Choices
kept_choice k v = if members k.chosen v then Some (slice_index k.choices.items v) else None

-- nothing is kept, and no vertex is bad
abbrev pub KeepsNothing : StrategyGraph → Type 0
KeepsNothing k = (v : ℕ) → (kept_row k v ≡ []) × (members k.bad v ≡ false)

-- the same is kept of the vertex
pub record IsSameAt (old new : StrategyGraph) (v : ℕ) : Type 0 where
  pub choice : kept_choice new v ≡ kept_choice old v
  pub row : kept_row new v ≡ kept_row old v
  pub bad : members new.bad v ≡ members old.bad v

-- the edges of one more vertex are kept, with this choice or none
pub record IsKeptWith (old : StrategyGraph) (v : ℕ) (bad : Bool) (choice : Option ℕ) (new : StrategyGraph) : Type 0 where
  pub game : new.game.now ≡ old.game.now
  pub choice_is : kept_choice new v ≡ choice
  pub row_is : kept_row new v ≡ ends_at old.game.now v choice
  pub bad_is : members new.bad v ≡ bad
  pub others : (x : ℕ) → x ≢ v → IsSameAt old new x

-- of each vertex of the set, what its player keeps with these choices, and of others nothing; bad are the vertices of the set that are
-- bad for their player
pub record IsStrategy (k : StrategyGraph) (X : VertexSet) (player_at : ℕ → Player) (s : Choices) : Type 0 where
  pub rows : (v : ℕ) → kept_row k v ≡ (if X v then kept k.game.now (player_at v) s v else [])
  pub bad : (v : ℕ) → members k.bad v ≡ (X v && is_bad k.game.now (player_at v) v)
