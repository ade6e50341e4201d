-- The kept edges of a game, in the tables of the checks, and searches along them (private).
use Rattle.std.specs.Prelude.{ℕ, ◌≡◌, ◌≢◌, ◌≤◌, ◌<◌, ◌+◌, ◌-◌, ◌^◌, ◌⊎◌, List, length, slice_index, MatchOption}
use Rattle.pg_game.specs.Graph.{priority_of}
use Rattle.pg_game.specs.Least.{NoneHas, IsLeast}
use Rattle.pg_game.specs.Walk.{Walk}
use Rattle.pg_dominion.specs.declared.strategy_graph.StrategyGraph.{StrategyGraph}
use Rattle.pg_dominion.specs.declared.cycles.SearchProgress.{SearchProgress}
use Rattle.pg_dominion.specs.declared.cycles.SearchProgress.TheVariants as searched
use Rattle.pg_dominion.specs.KeptEdges.{Edge, IsOnBadCycle}

-- a number of steps after which a search ends without a result; the greatest number is no limit
abbrev pub IsBounded : ℕ → Type 0
IsBounded most = most < 2 ^ 64 - 1

-- the least vertex on a bad cycle; or there is none; or none before a vertex where the patience ends
abbrev pub IsSearched : StrategyGraph → ℕ → SearchProgress → Type 0
IsSearched k patience (searched.All least) = MatchOption least (NoneHas (IsOnBadCycle k)) (IsLeast (IsOnBadCycle k))
IsSearched k patience (searched.Before v) = IsBounded patience × ((u : ℕ) → u < v → IsOnBadCycle k u → ⊥)

-- an edge to a vertex of at most this priority
abbrev pub EdgeUnder : StrategyGraph → ℕ → ℕ → ℕ → Type 0
EdgeUnder k top v w = Edge k v w × (priority_of k.game.now w ≤ top)

-- a walk over vertices of at most this priority
abbrev pub Leads : StrategyGraph → ℕ → ℕ → ℕ → Type 0
Leads k top v w = (vs : List ℕ) × Walk (EdgeUnder k top) v vs w

-- a walk from v to w over vertices of at most v's priority
abbrev pub Reaches : StrategyGraph → ℕ → ℕ → Type 0
Reaches k v w = Leads k (priority_of k.game.now v) v w

-- two vertices have the same group and level
abbrev pub AreAlike : (levels groups : List ℕ) → ℕ → ℕ → Type 0
AreAlike levels groups x y = (slice_index groups y ≡ slice_index groups x) × (slice_index levels y ≡ slice_index levels x)

-- what searches have shown: each vertex on a closed walk with x, of priorities below x's level, has x's group and level, and
-- there is no such walk if the group is x's own
pub record AreLabelled (k : StrategyGraph) (levels groups : List ℕ) : Type 0 where
  pub levels_size : length levels ≡ length k.game.now
  pub groups_size : length groups ≡ length k.game.now
  pub blank : (x : ℕ) → slice_index groups x ≡ 0 → slice_index levels x ≡ 0
  pub together : (top x y : ℕ) → top < slice_index levels x → Leads k top x y → Leads k top y x → AreAlike levels groups x y
  pub alone : (top x : ℕ) → top < slice_index levels x → slice_index groups x ≡ x + 1 → Leads k top x x → ⊥

-- a search under this priority passes over w: no closed walk joins it to a vertex of the search's group, or of none
abbrev pub IsPassed : (levels groups : List ℕ) → ℕ → ℕ → ℕ → Type 0
IsPassed levels groups top own w = (top < slice_index levels w) × (slice_index groups w ≢ own)

-- w is in the queue, at its place below n
abbrev pub IsBefore : (places queue : List ℕ) → ℕ → ℕ → Type 0
IsBefore places queue n w = (slice_index places w < n) × (slice_index queue (slice_index places w) ≡ w)

abbrev pub IsQueued : (places queue : List ℕ) → ℕ → Type 0
IsQueued places queue w = IsBefore places queue (length queue) w

-- a search from the first vertex of the queue, which has the reached vertices; it passes over none of them
pub record AreReached (k : StrategyGraph) (levels groups : List ℕ) (top own : ℕ) (places queue : List ℕ) : Type 0 where
  pub size : length places ≡ length k.game.now
  pub some : 0 < length queue
  pub below : (i : ℕ) → i < length queue → slice_index queue i < length k.game.now
  pub placed : (i : ℕ) → i < length queue → slice_index places (slice_index queue i) ≡ i
  pub counts : (i : ℕ) → i < length queue → top < slice_index levels (slice_index queue i) → slice_index groups (slice_index queue i) ≡ own
  pub reached : (i : ℕ) → i < length queue → (slice_index queue i ≡ slice_index queue 0) ⊎ Leads k top (slice_index queue 0) (slice_index queue i)

-- the end of an edge from place i is passed over, or is at a later place, or at one from the least on
abbrev pub IsFollowed : (levels groups : List ℕ) → ℕ → ℕ → ℕ → (places queue : List ℕ) → ℕ → ℕ → Type 0
IsFollowed levels groups top own least places queue i w =
    IsPassed levels groups top own w ⊎ (IsQueued places queue w × ((i < slice_index places w) ⊎ (least ≤ slice_index places w)))

-- so are all that the vertex at place i leads to
abbrev pub IsSpread : StrategyGraph → (levels groups : List ℕ) → ℕ → ℕ → ℕ → (places queue : List ℕ) → ℕ → Type 0
IsSpread k levels groups top own least places queue i =
    (w : ℕ) → EdgeUnder k top (slice_index queue i) w → IsFollowed levels groups top own least places queue i w

-- a reached vertex stays reached
pub record GoesOn (queue : List ℕ) (least : ℕ) (queue' : List ℕ) (least' : ℕ) : Type 0 where
  pub longer : length queue ≤ length queue'
  pub front : (i : ℕ) → i < length queue → slice_index queue' i ≡ slice_index queue i
  pub less : least' ≤ least

-- the group of x at a place: before the least its own, and then that of the start
abbrev pub IsGroupAt : (start least place x group : ℕ) → Type 0
IsGroupAt start least place x group = ((place < least) × (group ≡ x + 1)) ⊎ ((least ≤ place) × (group ≡ start + 1))

-- what searches have shown of each vertex
pub record LabelLists : Type 0 where
  pub levels : List ℕ
  pub groups : List ℕ

abbrev pub label_lists : List ℕ → List ℕ → LabelLists
label_lists levels groups = record { levels = levels; groups = groups }

-- what a search has reached: the place of each vertex, the vertices by place, and the least place that was reached twice
pub record ReachedLists : Type 0 where
  pub places : List ℕ
  pub queue : List ℕ
  pub least : ℕ

abbrev pub reached_lists : List ℕ → List ℕ → ℕ → ReachedLists
reached_lists places queue least = record { places = places; queue = queue; least = least }

-- the vertices at the first n places have the level, and the search's group, or before the least place their own
pub record AreNoted (old : LabelLists) (r : ReachedLists) (level start n : ℕ) (new : LabelLists) : Type 0 where
  pub levels_size : length new.levels ≡ length old.levels
  pub groups_size : length new.groups ≡ length old.groups
  pub inside : (x : ℕ) → IsBefore r.places r.queue n x → slice_index new.levels x ≡ level
  pub group : (x : ℕ) → IsBefore r.places r.queue n x → IsGroupAt start r.least (slice_index r.places x) x (slice_index new.groups x)
  pub outside : (x : ℕ) → (IsBefore r.places r.queue n x → ⊥)
      → (slice_index new.levels x ≡ slice_index old.levels x) × (slice_index new.groups x ≡ slice_index old.groups x)
