-- An unfinished claim: its first rows are decided, the others wait.
use Rattle.std.specs.Prelude.{ℕ, ◌≡◌, ◌≢◌, ◌≤◌, ◌<◌, length, take, Some, None, nat_eq}
use Rattle.std.specs.List.{IsDistinct}
use Rattle.pg_game.specs.Graph.{Graph, HasEdge, owner_of}
use Rattle.pg_game.specs.VertexSet.{In, Within}
use Rattle.pg_game.specs.Region.{OnlyGoodWalks}
use Rattle.pg_dominion.specs.Claim.{ClaimRows, vertices, row_at, named, choice_in}
use Rattle.pg_finders.specs.private.small.Search.{Search, IsSmallClaim}

-- at most eight different vertices of the game
pub record AreFew (g : Graph) (rows : ClaimRows) : Type 0 where
  pub few : length rows ≤ 8
  pub below : (k : ℕ) → k < length rows → (row_at rows k).0 < length g
  pub different : IsDistinct nat_eq (vertices rows)

-- different vertices of the subgame, within the bound; a choice only at the player's
pub record AreDifferentRows (s : Search) (rows : ClaimRows) : Type 0 where
  pub small : AreFew s.graph rows
  pub bounded : length rows ≤ s.bound
  pub inside : Within (named rows) s.inside
  pub none : (v : ℕ) → In (named rows) v → owner_of s.graph v ≢ s.player → choice_in rows v ≡ None

-- the kept edges of v in the subgame end in the rows
pub record IsClosedAt (s : Search) (rows : ClaimRows) (v : ℕ) : Type 0 where
  pub own : owner_of s.graph v ≡ s.player → (w : ℕ) × (choice_in rows v ≡ Some w) × HasEdge s.graph v w × In (named rows) w
  pub other : owner_of s.graph v ≢ s.player → (w : ℕ) → HasEdge s.graph v w → In s.inside w → In (named rows) w

-- the first rows, up to this number, are decided: their kept edges inside end in the rows, and make only good closed walks
pub record IsPartial (s : Search) (rows : ClaimRows) (done : ℕ) : Type 0 where
  pub apart : AreDifferentRows s rows
  pub within : done ≤ length rows
  pub closed : (v : ℕ) → In (named (take done rows)) v → IsClosedAt s rows v
  pub good : OnlyGoodWalks s.graph s.player (named (take done rows)) (choice_in rows)

-- rows were added at the end
pub record AddsRows (old new : ClaimRows) : Type 0 where
  pub longer : length old ≤ length new
  pub front : (n : ℕ) → n ≤ length old → take n new ≡ take n old
  pub keeps : Within (named old) (named new)
  pub choices : (v : ℕ) → In (named old) v → choice_in new v ≡ choice_in old v

-- the claim has these vertices, and the choices of the decided ones
pub record ExtendsChoices (s : Search) (claim rows : ClaimRows) (done : ℕ) : Type 0 where
  pub vertices : Within (named rows) (named claim)
  pub choices : (v : ℕ) → In (named (take done rows)) v → owner_of s.graph v ≡ s.player → choice_in rows v ≡ choice_in claim v

-- no claim that the search looks for agrees with the rows
abbrev pub NoneAgrees : Search → ClaimRows → ℕ → Type 0
NoneAgrees s rows done = (claim : ClaimRows) → IsSmallClaim s claim → ExtendsChoices s claim rows done → ⊥
