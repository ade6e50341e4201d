-- What a small search looks for, and the results of its steps.
use Rattle.std.specs.Prelude.{ℕ, ◌≡◌, ◌<◌, ◌+◌, false, length, Some}
use Rattle.pg_game.specs.Graph.{HasEdge, owner_of}
use Rattle.pg_game.specs.VertexSet.{In, Within}
use Rattle.pg_dominion.specs.Claim.{ClaimRows, row_at, named, choice_in}
use Rattle.pg_finders.specs.declared.small.Step.{Step}
use Rattle.pg_finders.specs.declared.small.Step.TheVariants.{Found, Nothing, GaveUp}
use Rattle.pg_finders.specs.declared.small.rows.DominionSearch.{DominionSearch}
use Rattle.pg_finders.specs.private.small.Search.{Search, IsSmallClaim, search_in}
use Rattle.pg_finders.specs.private.small.Partial.{IsPartial, ExtendsChoices}

abbrev pub search_of : DominionSearch → Search
search_of s = search_in s.game.now s.mask.now s.player s.bound

-- a fact for one result
abbrev pub IfFound : Step → Type 0 → Type 0
IfFound Found P = P
IfFound step P = Unit {0}

abbrev pub IfNothing : Step → Type 0 → Type 0
IfNothing Nothing P = P
IfNothing step P = Unit {0}

abbrev pub IfGaveUp : Step → Type 0 → Type 0
IfGaveUp GaveUp P = P
IfGaveUp step P = Unit {0}

-- at the row of this place the player chooses
abbrev pub Chooses : Search → ClaimRows → ℕ → Type 0
Chooses s rows at = (at < length rows) × (owner_of s.graph (row_at rows at).0 ≡ s.player)

-- one more row is decided, and all vertices are still there
pub record IsNextPartial (s : Search) (rows : ClaimRows) (at : ℕ) (next : ClaimRows) : Type 0 where
  pub partial : IsPartial s next (at + 1)
  pub keeps : Within (named rows) (named next)

-- a claim that the search looks for and that agrees with the rows agrees with the next ones
abbrev pub StillAgrees : Search → ClaimRows → ℕ → ClaimRows → Type 0
StillAgrees s rows at next = (claim : ClaimRows) → IsSmallClaim s claim → ExtendsChoices s claim rows at → ExtendsChoices s claim next (at + 1)

-- the same, where it chooses w at the row
abbrev pub StillAgreesAt : Search → ClaimRows → ℕ → ℕ → ClaimRows → Type 0
StillAgreesAt s rows at w next = (claim : ClaimRows) → IsSmallClaim s claim → choice_in claim (row_at rows at).0 ≡ Some w
    → ExtendsChoices s claim rows at → ExtendsChoices s claim next (at + 1)

-- no claim that the search looks for agrees with the rows and chooses w at the row
abbrev pub NoneAgreesAt : Search → ClaimRows → ℕ → ℕ → Type 0
NoneAgreesAt s rows at w = (claim : ClaimRows) → IsSmallClaim s claim → choice_in claim (row_at rows at).0 ≡ Some w
    → ExtendsChoices s claim rows at → ⊥

-- the rows are full, and w is not among them
abbrev pub HasNoCapacity : Search → ClaimRows → ℕ → Type 0
HasNoCapacity s rows w = (length rows ≡ s.bound) × (named rows w ≡ false)

-- a successor of v in the subgame is beyond the bound
abbrev pub LacksCapacity : Search → ClaimRows → ℕ → Type 0
LacksCapacity s rows v = (w : ℕ) × HasEdge s.graph v w × In s.inside w × HasNoCapacity s rows w
