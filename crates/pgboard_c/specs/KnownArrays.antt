-- What is known of a game in arrays, and why a known set is no region.
use Rattle.std.specs.Prelude.{ℕ, ◌≡◌, ◌≢◌, ◌<◌, ◌==◌, List, length, slice_get, slice_index, if◌then◌else◌, Option, Some, None, Result, MatchResult}
use Rattle.pg_game.specs.declared.player.Player.{Player}
use Rattle.pg_game.specs.Graph.{Graph}
use Rattle.pg_game.specs.Least.{NoneHas, IsLeast}
use Rattle.pg_game.specs.Player.{of_digit}
use Rattle.pg_text.specs.Known.{KnownRows, known_at}
use Rattle.pg_text.specs.Solution.{SolutionRows, IsExactSolution}
use Rattle.pg_workers.specs.KnownRegions.{IsKnownRegion, KeepsKnown, IsRefusedSet, MayGiveUpFrom}
use Rattle.pgboard_c.specs.declared.fault.Structure.TheVariants as structure
use Rattle.pgboard_c.specs.declared.fault.Fault.{Fault}
use Rattle.pgboard_c.specs.declared.fault.Fault.TheVariants as fault
use Rattle.pgboard_c.specs.declared.arrays.Results.{Results}
use Rattle.pgboard_c.specs.Arrays.{GameLists, ResultLists, IsGameOfArrays, AreResults, choice_from, result_lists, IsSameStruct, AreUnchanged}
use Rattle.pgboard_c.specs.Answers.{HaveSize, AreUnfitResults, IsArraysFault, IsUnfitSolution}

-- the number for an unknown winner
abbrev pub no_winner : ℕ
no_winner = 255

abbrev pub known_from : ℕ → ℕ → Option (Player × Option ℕ)
known_from winner choice = if winner == no_winner then None else Some (of_digit winner, choice_from choice)

-- what is known of each vertex by the arrays
pub record AreKnown (winners choices : List ℕ) (rows : KnownRows) : Type 0 where
  pub size : length rows ≡ length winners
  pub each : (v : ℕ) → v < length rows → known_at rows v ≡ known_from (slice_index winners v) (slice_index choices v)

abbrev pub IsBadKnownWinner : List ℕ → ℕ → Type 0
IsBadKnownWinner winners v = (v < length winners) × (1 < slice_index winners v) × (slice_index winners v ≢ no_winner)

-- the struct fits the game, and each winner is a player or unknown
abbrev pub FitsAsKnown : Graph → ResultLists → Type 0
FitsAsKnown g k = HaveSize g k × NoneHas (IsBadKnownWinner k.winners)

-- why a game is not solved from what is known of it: a known set is no region; or both are, and the limit of steps may be too low
abbrev pub IsUnsolved : Option ℕ → Graph → KnownRows → Fault → Type 0
IsUnsolved limit g known fault.Memory = Unit {0}
IsUnsolved limit g known (fault.Known f) = IsRefusedSet g known f
IsUnsolved limit g known fault.GaveUp = ((p : Player) → IsKnownRegion g known p) × MayGiveUpFrom limit g known
IsUnsolved limit g known other = ⊥

-- the same as AreSolved, each player's known set is a region of his, and he keeps its vertices and the choices at those that he owns
pub record AreSolvedFrom (a : GameLists) (k r : ResultLists) : Type 0 where
  pub graph : Graph
  pub known : KnownRows
  pub rows : SolutionRows
  pub game : IsGameOfArrays a graph
  pub known_fits : FitsAsKnown graph k
  pub known_is : AreKnown k.winners k.choices known
  pub regions : (p : Player) → IsKnownRegion graph known p
  pub kept : KeepsKnown graph known (λ v. slice_get rows v)
  pub fit : HaveSize graph r
  pub results : AreResults r.winners r.choices rows
  pub exact : IsExactSolution graph rows

-- the arrays fit one another, and the game is not solved from what is known of it
abbrev pub IsNotSolvedFrom : Option ℕ → GameLists → ResultLists → ResultLists → Fault → Type 0
IsNotSolvedFrom limit a k r e =
    (g : Graph) × (known : KnownRows) × IsGameOfArrays a g × FitsAsKnown g k × AreKnown k.winners k.choices known × HaveSize g r
    × IsUnsolved limit g known e

-- why solving from what is known has no result: the game comes first, then what is known as arrays, then the results, then what it means, and
-- at last the limit of steps
abbrev pub IsSolveFromFault : Option ℕ → GameLists → ResultLists → ResultLists → Fault → Type 0
IsSolveFromFault limit a k r (fault.Size structure.Solution) =
    (g : Graph) × IsGameOfArrays a g × IsUnfitSolution g k (fault.Size structure.Solution)
IsSolveFromFault limit a k r (fault.Solution name) = (g : Graph) × IsGameOfArrays a g × IsUnfitSolution g k (fault.Solution name)
IsSolveFromFault limit a k r (fault.Winner v) = (g : Graph) × IsGameOfArrays a g × HaveSize g k × IsLeast (IsBadKnownWinner k.winners) v
IsSolveFromFault limit a k r (fault.Size structure.Results) =
    (g : Graph) × IsGameOfArrays a g × FitsAsKnown g k × AreUnfitResults g r (fault.Size structure.Results)
IsSolveFromFault limit a k r (fault.Results name) =
    (g : Graph) × IsGameOfArrays a g × FitsAsKnown g k × AreUnfitResults g r (fault.Results name)
IsSolveFromFault limit a k r (fault.Known f) = IsNotSolvedFrom limit a k r (fault.Known f)
IsSolveFromFault limit a k r fault.GaveUp = IsNotSolvedFrom limit a k r fault.GaveUp
IsSolveFromFault limit a k r other = IsArraysFault a other

abbrev pub IsSolveFromOutcome : Option ℕ → GameLists → ResultLists → Results → Results → Result (Unit {0}) Fault → Type 0
IsSolveFromOutcome limit a k old new result = MatchResult result
    (λ _. AreSolvedFrom a k (result_lists new) × IsSameStruct old new) (λ e. IsSolveFromFault limit a k (result_lists old) e × AreUnchanged old new)
