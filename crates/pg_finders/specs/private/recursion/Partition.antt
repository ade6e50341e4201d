-- What is free for an attraction, and what a player takes of it: one vertex after another, each listed.
use Rattle.std.specs.Prelude.{ℕ, suc, ◌≡◌, ◌≢◌, ◌<◌, ◌==◌, ◌⊎◌, false, Some, List, [], ◌∷◌, ◌++◌, length, if◌then◌else◌, ◌≤◌, ◌||◌, not, All, Option, take}
use Rattle.pg_game.specs.declared.player.Player.{Player}
use Rattle.pg_game.specs.Player.{opponent}
use Rattle.pg_game.specs.Graph.{Graph, HasEdge, owner_of}
use Rattle.pg_game.specs.VertexSet.{VertexSet, In, union, without, Within}
use Rattle.pg_finders.specs.declared.recursion.subgame.Plan.{Plan}
use Rattle.pg_finders.specs.private.recursion.Subgame.{listed, Once, winners_of, choices_of, SameOutside, Apart, SameAt, IsGiven, active_of, HasSizes}
use Rattle.std.specs.List.{filter}
use Rattle.pg_finders.specs.declared.recursion.partition.Partition.{Partition}
use Rattle.pg_finders.specs.declared.recursion.settled.Tail.{Tail}
use Rattle.pg_finders.specs.private.recursion.Settled.{settled_of, since, IsPlaced, is_listed_from}
use Rattle.pg_finders.specs.private.Solved.{IsAttracted}
use Rattle.pg_dominion.specs.AttractorState.{AttractsNoFurther, IsTakenOrOpen}

-- the first place of a vertex in the list
abbrev pub place : List ℕ → ℕ → ℕ
place [] v = 0
place (u ∷ us) v = if u == v then 0 else suc (place us v)

-- listed, and earlier than v
abbrev pub Before : List ℕ → ℕ → ℕ → Type 0
Before list v w = In (listed list) w × (place list w < place list v)

-- The player took active vertices: those of `more`, after the prefix. Each of his has a choice that is earlier in the list, and each edge
-- of the opponent's to a vertex that was active or in the list leads to an earlier one of the list. Elsewhere the plan is as it was.
pub record HasTaken (g : Graph) (p : Player) (before : VertexSet) (old : Plan) (prefix : List ℕ) (after : VertexSet) (new : Plan) (list : List ℕ) : Type 0 where
  pub more : List ℕ
  pub list_is : list ≡ prefix ++ more
  pub once : Once more
  pub were_active : (v : ℕ) → In (listed more) v → In before v
  pub active_is : (v : ℕ) → after v ≡ without before (listed more) v
  pub his : (v : ℕ) → In (listed more) v → winners_of new v ≡ p
  pub same : SameOutside before old new
  pub elsewhere : SameOutside (listed more) old new
  pub leads : (v : ℕ) → In (listed more) v → owner_of g v ≡ p → (w : ℕ) × (choices_of new v ≡ Some w) × HasEdge g v w × Before list v w
  pub pushed : (v w : ℕ) → In (listed more) v → owner_of g v ≡ opponent p → HasEdge g v w → In (union before (listed prefix)) w → Before list v w

-- the active vertices and those of the tail
abbrev pub free_of : Tail → Partition → VertexSet
free_of t x v = active_of x.subgame v || is_listed_from x.settled.places.items (settled_of x.settled t.player) t.from v

-- the partition of a game of n vertices: no settled vertex is active
pub record IsPartition (n : ℕ) (x : Partition) : Type 0 where
  pub sizes : HasSizes n x.subgame
  pub placed : IsPlaced n x.settled
  pub apart : (p : Player) (v : ℕ) → In (listed (settled_of x.settled p)) v → active_of x.subgame v ≡ false

-- no listed vertex is free or settled, and none is listed twice
pub record FitsPartition (n : ℕ) (t : Tail) (x : Partition) (list : List ℕ) : Type 0 where
  pub partition : IsPartition n x
  pub once : Once list
  pub apart : (v : ℕ) → In (listed list) v → free_of t x v ≡ false
  pub below : All (λ v. v < n) list
  pub unsettled : (p : Player) → Apart (settled_of x.settled p) list

-- fewer vertices are active or free, and all else of the lists is as it was
pub record HasFewerFree (t : Tail) (x x' : Partition) : Type 0 where
  pub other : settled_of x'.settled (opponent t.player) ≡ settled_of x.settled (opponent t.player)
  pub own : take t.from (settled_of x'.settled t.player) ≡ take t.from (settled_of x.settled t.player)
  pub active : Within (active_of x'.subgame) (active_of x.subgame)
  pub rest : Within (listed (since t x'.settled)) (listed (since t x.settled))
  pub free : (v : ℕ) → free_of t x v ≡ false → free_of t x' v ≡ false

-- a search has moved cursors, and nothing else
pub record MovesCursors (x x' : Partition) : Type 0 where
  pub free : x'.free ≡ x.free
  pub settled : x'.settled ≡ x.settled
  pub active : x'.subgame.active ≡ x.subgame.active
  pub plan : x'.subgame.plan ≡ x.subgame.plan

-- a free vertex is taken for the player, with this choice
pub record Puts (t : Tail) (p : Player) (v : ℕ) (choice : Option ℕ) (x x' : Partition) : Type 0 where
  pub fewer : HasFewerFree t x x'
  pub free : (w : ℕ) → free_of t x' w ≡ without (free_of t x) (λ u. v == u) w
  pub winner : winners_of x'.subgame.plan v ≡ p
  pub choice_is : choices_of x'.subgame.plan v ≡ choice
  pub elsewhere : (w : ℕ) → w ≢ v → SameAt x.subgame.plan x'.subgame.plan w

-- the player has taken free vertices, where the list is thought to begin with these others
abbrev pub KeepsBehind : Graph → Player → List ℕ → Tail → Partition → List ℕ → Partition → List ℕ → Type 0
KeepsBehind g p first t x list x' list' = (before : VertexSet) (old : Plan) (prefix : List ℕ)
    → HasTaken g p before old prefix (free_of t x) x.subgame.plan (first ++ list) → HasTaken g p before old prefix (free_of t x') x'.subgame.plan (first ++ list')

-- the player has taken free vertices, also where the list is thought to begin with others that are not free
abbrev pub KeepsFree : Graph → Player → Partition → List ℕ → Partition → List ℕ → Type 0
KeepsFree g p x list x' list' = (x'.free ≡ x.free) × HasFewerFree x.free x x'
    × ((first : List ℕ) → ((v : ℕ) → In (listed first) v → free_of x.free x v ≡ false) → KeepsBehind g p first x.free x list x' list')

-- the target's player is the opponent of the tail's, or the tail is empty; and no vertex of the target is free
pub record IsTarget (t target : Tail) (x : Partition) : Type 0 where
  pub side : (target.player ≡ opponent t.player) ⊎ (since t x.settled ≡ [])
  pub apart : (v : ℕ) → In (listed (since target x.settled)) v → free_of t x v ≡ false

-- these vertices are tested: the free ones that the target attracts at once are taken, and listed
pub record HasTested (g : Graph) (t target : Tail) (vertices : List ℕ) (x : Partition) (list : List ℕ) (x' : Partition) (list' : List ℕ) : Type 0 where
  pub fit : FitsPartition (length g) t x' list'
  pub fewer : HasFewerFree t x x'
  pub target_same : since target x'.settled ≡ since target x.settled
  pub grown : KeepsBehind g target.player (since target x.settled) t x list x' list'
  pub tested : (v : ℕ) → In (listed vertices) v → In (free_of t x) v → IsTakenOrOpen g target.player (union (free_of t x) (listed (since target x.settled)))
      (listed (since target x.settled)) (λ u. not (free_of t x' u)) v

-- the vertex of the tail rests on the other one: its player chose that, or it is his opponent's and leads there
abbrev pub RestsOn : Graph → Tail → Partition → ℕ → ℕ → Type 0
RestsOn g t x v w = In (listed (since t x.settled)) v × HasEdge g v w × ((owner_of g v ≡ opponent t.player) ⊎ (choices_of x.subgame.plan v ≡ Some w))

-- vertices of the tail are active again and listed after the prefix, and nothing else has changed
pub record HasOpened (t : Tail) (x : Partition) (prefix : List ℕ) (x' : Partition) (list : List ℕ) : Type 0 where
  pub more : List ℕ
  pub list_is : list ≡ prefix ++ more
  pub once : Once more
  pub were : Within (listed more) (listed (since t x.settled))
  pub active : (v : ℕ) → active_of x'.subgame v ≡ union (active_of x.subgame) (listed more) v
  pub rest : (v : ℕ) → listed (since t x'.settled) v ≡ without (listed (since t x.settled)) (listed more) v
  pub other : settled_of x'.settled (opponent t.player) ≡ settled_of x.settled (opponent t.player)
  pub own : take t.from (settled_of x'.settled t.player) ≡ take t.from (settled_of x.settled t.player)
  pub plan : x'.subgame.plan ≡ x.subgame.plan

-- the tail has lost the listed vertices
pub record LosesFree (t : Tail) (x x' : Partition) (list : List ℕ) : Type 0 where
  pub before : take t.from (settled_of x'.settled t.player) ≡ take t.from (settled_of x.settled t.player)
  pub rest : (v : ℕ) → listed (since t x'.settled) v ≡ without (listed (since t x.settled)) (listed list) v

-- the target's player has attracted the listed vertices of those that were free to the target, and they are settled for him
pub record AttractsFree (g : Graph) (t target : Tail) (x x' : Partition) (list : List ℕ) : Type 0 where
  pub grown : HasTaken g target.player (free_of t x) x.subgame.plan (since target x.settled) (without (free_of t x) (listed list)) x'.subgame.plan
      (since target x.settled ++ list)
  pub done : AttractsNoFurther g target.player (union (free_of t x) (listed (since target x.settled))) (listed (since target x.settled ++ list))
      (listed (since target x.settled ++ list))
  pub settled : settled_of x'.settled target.player ≡ settled_of x.settled target.player ++ list
  pub active : (v : ℕ) → active_of x'.subgame v ≡ without (active_of x.subgame) (listed list) v
  pub opponents : target.player ≡ opponent t.player → LosesFree t x x' list
  pub own : target.player ≡ t.player → settled_of x'.settled (opponent t.player) ≡ settled_of x.settled (opponent t.player)

-- the active ones of these vertices are given to the tail's player, each with a free successor, and listed after the others; what is free stays so
pub record GivesActive (g : Graph) (t : Tail) (vertices : List ℕ) (x x' : Partition) (list list' : List ℕ) : Type 0 where
  pub partition : IsPartition (length g) x'
  pub list_is : list' ≡ list ++ filter (λ v. active_of x.subgame v) vertices
  pub given : (v : ℕ) → In (listed vertices) v → In (active_of x.subgame) v → IsGiven g (free_of t x) t.player x'.subgame.plan v
  pub same : SameOutside (active_of x.subgame) x.subgame.plan x'.subgame.plan
  pub active : x'.subgame.active ≡ x.subgame.active
  pub settled : x'.settled ≡ x.settled

-- the first k listed vertices are the active ones of those given, and the list is what the tail's player attracts to them of what was active
pub record BeginsAgain (g : Graph) (t : Tail) (vertices : List ℕ) (x x' : Partition) (list : List ℕ) (k : ℕ) : Type 0 where
  pub few : k ≤ length list
  pub tops : take k list ≡ filter (λ v. active_of x.subgame v) vertices
  pub once : Once list
  pub attracted : IsAttracted g t.player (active_of x.subgame) (listed (take k list)) (listed list) (choices_of x'.subgame.plan) (place list)
  pub chosen : (v : ℕ) → In (listed (take k list)) v → owner_of g v ≡ t.player
      → (w : ℕ) × (choices_of x'.subgame.plan v ≡ Some w) × HasEdge g v w × In (free_of t x) w
  pub his : (v : ℕ) → In (listed list) v → winners_of x'.subgame.plan v ≡ t.player
  pub active : (v : ℕ) → active_of x'.subgame v ≡ without (active_of x.subgame) (listed list) v
  pub same : SameOutside (active_of x.subgame) x.subgame.plan x'.subgame.plan
  pub settled : (p : Player) → settled_of x'.settled p ≡ settled_of x.settled p
