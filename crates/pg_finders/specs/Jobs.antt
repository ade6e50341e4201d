-- The results of the standard finder for a job.
use Rattle.std.specs.Prelude.{ℕ, ◌≡◌, ◌<◌, ◌-◌, ◌*◌, ◌==◌, ◌++◌, ◌↔◌, min, Bool, true, false, List, [], ◌∷◌, length, Option, Some, None, MatchOption}
use Rattle.std.specs.Prelude.{if◌then◌else◌}
use Rattle.std.specs.Option.{option_to_list}
use Rattle.std.specs.List.{range_with_len}
use Rattle.pg_game.specs.declared.player.Player.{Player}
use Rattle.pg_game.specs.declared.player.Player.TheVariants.{Even, Odd}
use Rattle.pg_game.specs.Graph.{Graph, owner_of}
use Rattle.pg_game.specs.VertexSet.{VertexSet, In}
use Rattle.pg_game.specs.Least.{NoneHas}
use Rattle.pg_dominion.specs.declared.claim.Claim.{Claim}
use Rattle.pg_dominion.specs.Claim.{ClaimRows, named, choice_in, IsGoodIn}
use Rattle.pg_finders.specs.declared.finder.Job.{Job}
use Rattle.pg_finders.specs.declared.finder.Job.TheVariants.{Loops, Solitaire, Small, Recursion}
use Rattle.pg_finders.specs.Claims.{AreClaims}
use Rattle.pg_finders.specs.Finding.{IsLoop, IsSolitaire, IsSmall, most_choices, AtMostInside}

-- a fact for one kind of job
abbrev pub IfLoops : Job → Type 0 → Type 0
IfLoops Loops P = P
IfLoops job P = Unit {0}

abbrev pub IfSolitaire : Job → Type 0 → Type 0
IfSolitaire Solitaire P = P
IfSolitaire job P = Unit {0}

abbrev pub IfSmall : Job → (Player → ℕ → ℕ → ℕ → ℕ → Type 0) → Type 0
IfSmall (Small player first count bound budget) P = P player first count bound budget
IfSmall job P = Unit {0}

abbrev pub IfRecursion : Job → Type 0 → Type 0
IfRecursion Recursion P = P
IfRecursion job P = Unit {0}

abbrev pub is_small : Job → Bool
is_small (Small player first count bound budget) = true
is_small job = false

-- the player's claim of exactly the vertices that alone are his dominions, each that he owns with itself as the choice
pub record HasLoops (g : Graph) (U : VertexSet) (p : Player) (claim : Claim) : Type 0 where
  pub player : claim.player ≡ p
  pub vertices : (v : ℕ) → In (named claim.rows) v ↔ IsLoop g U p v
  pub choices : (v : ℕ) → In (named claim.rows) v → owner_of g v ≡ p → choice_in claim.rows v ≡ Some v
  pub good : IsGoodIn g U p claim.rows

-- that claim; none if there is no such vertex
abbrev pub AreLoopsOf : Graph → VertexSet → Player → Option Claim → Type 0
AreLoopsOf g U p found = MatchOption found (NoneHas (IsLoop g U p)) (λ claim. HasLoops g U p claim)

-- Even's loops and then Odd's, if there are some
pub record AreLoops (g : Graph) (U : VertexSet) (claims : List Claim) : Type 0 where
  pub even : Option Claim
  pub odd : Option Claim
  pub evens : AreLoopsOf g U Even even
  pub odds : AreLoopsOf g U Odd odd
  pub order : claims ≡ option_to_list even ++ option_to_list odd

-- one claim, good in the subgame, if that is solitaire; else none
pub record AreOfSolitaire (g : Graph) (U : VertexSet) (claims : List Claim) : Type 0 where
  pub found : Option Claim
  pub answer : MatchOption found (IsSolitaire g U → ⊥) (λ claim. IsSolitaire g U × IsGoodIn g U claim.player claim.rows)
  pub all : claims ≡ option_to_list found

-- the claim, if it has rows
abbrev pub with_rows : Claim → Option Claim
with_rows claim = if length claim.rows == 0 then None else Some claim

-- two claims that share the subgame out: Even's and then Odd's, each if it has rows
pub record AreOfRecursion (g : Graph) (U : VertexSet) (claims : List Claim) : Type 0 where
  pub even : Claim
  pub odd : Claim
  pub shared : AreClaims g U even odd
  pub order : claims ≡ option_to_list (with_rows even) ++ option_to_list (with_rows odd)

-- the seeds of a small job: this many vertices from the first on, as far as they are below n
abbrev pub seeds_of : ℕ → ℕ → ℕ → List ℕ
seeds_of n first count = range_with_len first (min count (n - first))

-- one small claim of the player; or none, because there is none, or because the budget does not cover all choices
abbrev pub IsOfSmall : Graph → VertexSet → Player → List ℕ → ℕ → ℕ → List Claim → Bool → Type 0
IsOfSmall g U p seeds bound budget [] false = (rows : ClaimRows) → IsSmall g U p seeds bound rows → ⊥
IsOfSmall g U p seeds bound budget [] true = (degree : ℕ) → AtMostInside g U degree → budget < length seeds * most_choices degree bound
IsOfSmall g U p seeds bound budget (claim ∷ []) false = (claim.player ≡ p) × IsSmall g U p seeds bound claim.rows
IsOfSmall g U p seeds bound budget (claim ∷ []) true = ⊥
IsOfSmall g U p seeds bound budget (claim ∷ other ∷ claims) gave_up = ⊥
