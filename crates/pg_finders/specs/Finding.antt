-- What the finders look for in a subgame (dominions: Jurdzinski, Paterson, Zwick 2008; the search by seeds is this project's own).
use Rattle.std.specs.Prelude.{ℕ, zero, suc, ◌≡◌, ◌≢◌, ◌+◌, ◌*◌, ◌≤◌, List, length, count_by, Contains}
use Rattle.pg_game.specs.declared.player.Player.{Player}
use Rattle.pg_game.specs.Player.{of_parity}
use Rattle.pg_game.specs.Graph.{Graph, HasEdge, owner_of, priority_of, successors_of}
use Rattle.pg_game.specs.VertexSet.{VertexSet, In}
use Rattle.pg_dominion.specs.Claim.{ClaimRows, named, IsGoodIn}

-- the vertex alone is a dominion of the player in the subgame
pub record IsLoop (g : Graph) (U : VertexSet) (p : Player) (v : ℕ) : Type 0 where
  pub inside : In U v
  pub parity : of_parity (priority_of g v) ≡ p
  pub itself : HasEdge g v v
  pub only : owner_of g v ≢ p → (w : ℕ) → HasEdge g v w → In U w → w ≡ v

-- each vertex of the player in the set has a single successor in it
abbrev pub HasOneSuccessor : Graph → VertexSet → Player → Type 0
HasOneSuccessor g U p = (v w x : ℕ) → In U v → owner_of g v ≡ p → HasEdge g v w → In U w → HasEdge g v x → In U x → w ≡ x

abbrev pub IsSolitaire : Graph → VertexSet → Type 0
IsSolitaire g U = ((v : ℕ) × In U v) × ((p : Player) × HasOneSuccessor g U p)

-- a good claim of at most this many vertices, with a seed in it
abbrev pub IsSmall : Graph → VertexSet → Player → List ℕ → ℕ → ClaimRows → Type 0
IsSmall g U p seeds bound rows = IsGoodIn g U p rows × (length rows ≤ bound) × ((v : ℕ) × Contains seeds v × In (named rows) v)

-- the greatest number of choices that a search of this depth tries, with this many successors at each vertex
abbrev pub most_choices : ℕ → ℕ → ℕ
most_choices degree zero = 0
most_choices degree (suc k) = degree * (1 + most_choices degree k)

abbrev pub inner_degree : Graph → VertexSet → ℕ → ℕ
inner_degree g U v = count_by U (successors_of g v)

-- no vertex of the set has more than this number of successors in it
abbrev pub AtMostInside : Graph → VertexSet → ℕ → Type 0
AtMostInside g U degree = (v : ℕ) → In U v → inner_degree g U v ≤ degree
