-- What a player attracts in place: a list of items, each for a vertex that is no longer free.
use Rattle.std.specs.Prelude.{ℕ, ◌≡◌, ◌≢◌, ◌==◌, ◌++◌, ◌⊎◌, false, List}
use Rattle.std.specs.List.{list_any}
use Rattle.pg_game.specs.declared.player.Player.{Player}
use Rattle.pg_game.specs.Graph.{Graph, HasEdge, owner_of}
use Rattle.pg_game.specs.VertexSet.{VertexSet, In, union}

-- the vertices of the items
abbrev pub listed_by : {A : Type 0} → (A → ℕ) → List A → VertexSet
listed_by f xs v = list_any (λ x. f x == v) xs

-- the player has taken vertices: there are more items, and the vertices that are free or have an item are the same
pub record Takes {A : Type 0} (f : A → ℕ) (free : VertexSet) (xs : List A) (free' : VertexSet) (xs' : List A) : Type 0 where
  pub more : List A
  pub list_is : xs' ≡ xs ++ more
  pub same : (v : ℕ) → union free' (listed_by f xs') v ≡ union free (listed_by f xs) v

-- some successor in U is not in S
abbrev pub HasOpen : Graph → VertexSet → VertexSet → ℕ → Type 0
HasOpen g U S v = (w : ℕ) × HasEdge g v w × In U w × (S w ≡ false)

-- no vertex of U outside S is attracted by those of D
pub record AttractsNoFurther (g : Graph) (p : Player) (U D S : VertexSet) : Type 0 where
  pub own : (v w : ℕ) → In U v → S v ≡ false → owner_of g v ≡ p → HasEdge g v w → D w ≡ false
  pub other : (v : ℕ) → In U v → S v ≡ false → owner_of g v ≢ p → HasOpen g U D v

-- the vertex is in `now`, or those of D do not attract it: it is the player's without an edge there, or the opponent's with a way out
abbrev pub IsTakenOrOpen : Graph → Player → VertexSet → VertexSet → VertexSet → ℕ → Type 0
IsTakenOrOpen g p U D now v =
    In now v ⊎ (((owner_of g v ≡ p) × ((w : ℕ) → HasEdge g v w → D w ≡ false)) ⊎ ((owner_of g v ≢ p) × HasOpen g U D v))
