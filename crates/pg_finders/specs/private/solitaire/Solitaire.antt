-- A subgame where one player has no choice: his single successors, and the vertices that lead to a goal.
use Rattle.std.specs.Prelude.{ℕ, ◌≡◌, ◌≤◌, ◌<◌, ◌&&◌, ◌⊎◌, nat_lt, Bool, List, length, slice_index, Some}
use Rattle.pg_game.specs.declared.player.Player.{Player}
use Rattle.pg_game.specs.Graph.{Graph, HasEdge, owner_of, priority_of}
use Rattle.pg_game.specs.VertexSet.{VertexSet, In, members}
use Rattle.pg_game.specs.Kept.{Choices}
use Rattle.pg_dominion.specs.declared.strategy_graph.StrategyGraph.{StrategyGraph}
use Rattle.pg_dominion.specs.KeptEdges.{IsStrategy, kept_choice}

-- the vertex has no two different successors in the set
abbrev pub HasOneAt : Graph → VertexSet → ℕ → Type 0
HasOneAt g U v = (w x : ℕ) → HasEdge g v w → In U w → HasEdge g v x → In U x → w ≡ x

-- w is the single successor of the vertex in the set
pub record IsSingle (g : Graph) (U : VertexSet) (v w : ℕ) : Type 0 where
  pub edge : HasEdge g v w
  pub inside : In U w
  pub only : (x : ℕ) → HasEdge g v x → In U x → x ≡ w

-- below n the edges of the set are kept, where the player has his single successors as choices
pub record IsForcedBelow (g : Graph) (U : VertexSet) (q : Player) (n : ℕ) (k : StrategyGraph) : Type 0 where
  pub game : k.game.now ≡ g
  pub strategy : IsStrategy k (λ v. nat_lt v n && U v) (λ v. q) (kept_choice k)
  pub single : (v : ℕ) → v < n → In U v → owner_of g v ≡ q → (w : ℕ) × (kept_choice k v ≡ Some w) × IsSingle g U v w

-- the choices that a list has by vertex
abbrev pub choices_by : List ℕ → Choices
choices_by next v = Some (slice_index next v)

-- an edge from a vertex of the set of at most this priority
abbrev pub EdgeBelow : Graph → VertexSet → ℕ → ℕ → ℕ → Type 0
EdgeBelow g U top v w = HasEdge g v w × In U v × (priority_of g v ≤ top)

-- each vertex that is taken has an edge to the next, which is the goal or is taken and nearer
pub record AreLeading (g : Graph) (U : VertexSet) (top goal : ℕ) (taken : List Bool) (next : List ℕ) : Type 0 where
  pub size : length taken ≡ length g
  pub next_size : length next ≡ length g
  pub rank : ℕ → ℕ
  pub edge : (v : ℕ) → In (members taken) v → EdgeBelow g U top v (slice_index next v)
  pub nearer : (v : ℕ) → In (members taken) v → (slice_index next v ≡ goal) ⊎ (In (members taken) (slice_index next v) × (rank (slice_index next v) < rank v))

-- all that has an edge to the vertex is taken
abbrev pub IsSeen : Graph → VertexSet → ℕ → VertexSet → ℕ → Type 0
IsSeen g U top taken w = (v : ℕ) → EdgeBelow g U top v w → In taken v
