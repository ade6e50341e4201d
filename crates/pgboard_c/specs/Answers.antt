-- The answers of the calls on arrays, and their refusals: the first reason that applies, for the least vertex.
use Rattle.std.specs.Prelude.{ℕ, ◌≡◌, ◌≢◌, ◌+◌, length, slice_index, Option, Some, Result, MatchResult}
use Rattle.pg_game.specs.Graph.{Graph}
use Rattle.pg_game.specs.VertexSet.{all_vertices}
use Rattle.pg_game.specs.Specification.{first_fault}
use Rattle.pg_game.specs.Least.{NoneHas, IsLeast}
use Rattle.pg_text.specs.Solution.{SolutionRows, IsSolution, IsExactSolution}
use Rattle.pg_dominion.specs.Verdict.{FailsBy}
use Rattle.pg_finders.specs.Steps.{priority_count}
use Rattle.pg_board.specs.Finish.{MayGiveUp}
use Rattle.pgboard_c.specs.declared.fault.ArrayName.{ArrayName}
use Rattle.pgboard_c.specs.declared.fault.ArrayName.TheVariants as array_name
use Rattle.pgboard_c.specs.declared.fault.Structure.TheVariants as structure
use Rattle.pgboard_c.specs.declared.fault.Fault.{Fault}
use Rattle.pgboard_c.specs.declared.fault.Fault.TheVariants as fault
use Rattle.pgboard_c.specs.declared.arrays.Results.{Results}
use Rattle.pgboard_c.specs.Numbers.{structure_size}
use Rattle.pgboard_c.specs.Arrays.{GameLists, HaveLengths, IsBadRow, IsBadOwner, IsBadPriority, AreWellFormed, array_specs, IsGameOfArrays}
use Rattle.pgboard_c.specs.Arrays.{ResultLists, AreResults, IsBadWinner, result_lists, IsSameStruct, AreUnchanged}

-- a start for each vertex and one more, from 0 on
abbrev pub HaveStarts : GameLists → Type 0
HaveStarts a = (length a.starts ≡ length a.owners + 1) × (slice_index a.starts 0 ≡ 0)

-- the first array that does not fit those before it
abbrev pub IsMisfit : GameLists → ArrayName → Type 0
IsMisfit a array_name.Priorities = length a.priorities ≢ length a.owners
IsMisfit a array_name.Starts = (length a.priorities ≡ length a.owners) × (HaveStarts a → ⊥)
IsMisfit a array_name.Targets =
    (length a.priorities ≡ length a.owners) × HaveStarts a × (slice_index a.starts (length a.owners) ≢ length a.targets)
IsMisfit a array_name.Winners = ⊥
IsMisfit a array_name.Choices = ⊥

-- why arrays are no game; refused memory says nothing of them
abbrev pub IsArraysFault : GameLists → Fault → Type 0
IsArraysFault a fault.Memory = Unit {0}
IsArraysFault a (fault.Size structure.Game) = a.size ≢ structure_size structure.Game
IsArraysFault a (fault.Lengths name) = (a.size ≡ structure_size structure.Game) × IsMisfit a name
IsArraysFault a (fault.Row v) = HaveLengths a × IsLeast (IsBadRow a) v
IsArraysFault a (fault.Owner v) = HaveLengths a × NoneHas (IsBadRow a) × IsLeast (IsBadOwner a) v
IsArraysFault a (fault.Priority v) = HaveLengths a × NoneHas (IsBadRow a) × NoneHas (IsBadOwner a) × IsLeast (IsBadPriority a) v
IsArraysFault a (fault.Game f) = AreWellFormed a × (first_fault (array_specs a) ≡ Some f)
IsArraysFault a other = ⊥

-- the struct has its size, and one entry for each vertex in each array
abbrev pub HaveSize : Graph → ResultLists → Type 0
HaveSize g r = (r.size ≡ structure_size structure.Results) × (length r.winners ≡ length g) × (length r.choices ≡ length g)

-- the first of the two arrays with another length
abbrev pub IsResultMisfit : Graph → ResultLists → ArrayName → Type 0
IsResultMisfit g r array_name.Winners = length r.winners ≢ length g
IsResultMisfit g r array_name.Choices = (length r.winners ≡ length g) × (length r.choices ≢ length g)
IsResultMisfit g r other = ⊥

-- the struct fits the game, and its arrays have the one solution's winners, and choices that make them a solution
pub record AreSolved (a : GameLists) (r : ResultLists) : Type 0 where
  pub graph : Graph
  pub rows : SolutionRows
  pub game : IsGameOfArrays a graph
  pub fit : HaveSize graph r
  pub results : AreResults r.winners r.choices rows
  pub exact : IsExactSolution graph rows

-- why the struct for results does not fit the game's vertices
abbrev pub AreUnfitResults : Graph → ResultLists → Fault → Type 0
AreUnfitResults g r (fault.Size structure.Results) = r.size ≢ structure_size structure.Results
AreUnfitResults g r (fault.Results name) = (r.size ≡ structure_size structure.Results) × IsResultMisfit g r name
AreUnfitResults g r other = ⊥

-- why solving has no result, with the results before the call; under a limit of steps that may be too low also that it gave up, on a game
-- and results that it could solve
abbrev pub IsSolveArraysFault : Option ℕ → GameLists → ResultLists → Fault → Type 0
IsSolveArraysFault limit a r (fault.Size structure.Results) = (g : Graph) × IsGameOfArrays a g × AreUnfitResults g r (fault.Size structure.Results)
IsSolveArraysFault limit a r (fault.Results name) = (g : Graph) × IsGameOfArrays a g × AreUnfitResults g r (fault.Results name)
IsSolveArraysFault limit a r fault.GaveUp = (g : Graph) × IsGameOfArrays a g × HaveSize g r × MayGiveUp limit (priority_count g (all_vertices g)) (length g)
IsSolveArraysFault limit a r other = IsArraysFault a other

-- the game is solved, or not, and the results are unchanged
abbrev pub IsSolveOutcome : Option ℕ → GameLists → Results → Results → Result (Unit {0}) Fault → Type 0
IsSolveOutcome limit a old new result = MatchResult result
    (λ _. AreSolved a (result_lists new) × IsSameStruct old new) (λ e. IsSolveArraysFault limit a (result_lists old) e × AreUnchanged old new)

-- why a solution's struct does not have winners and choices of the game's vertices
abbrev pub IsUnfitSolution : Graph → ResultLists → Fault → Type 0
IsUnfitSolution g s (fault.Size structure.Solution) = s.size ≢ structure_size structure.Solution
IsUnfitSolution g s (fault.Solution name) = (s.size ≡ structure_size structure.Solution) × IsResultMisfit g s name
IsUnfitSolution g s other = ⊥

-- the struct fits the game, and its arrays are a solution
pub record AreSolution (a : GameLists) (s : ResultLists) : Type 0 where
  pub graph : Graph
  pub rows : SolutionRows
  pub game : IsGameOfArrays a graph
  pub fit : HaveSize graph s
  pub results : AreResults s.winners s.choices rows
  pub solution : IsSolution graph rows

-- why they are no solution, or not even winners and choices
abbrev pub IsCheckFault : GameLists → ResultLists → Fault → Type 0
IsCheckFault a s (fault.Size structure.Solution) = (g : Graph) × IsGameOfArrays a g × IsUnfitSolution g s (fault.Size structure.Solution)
IsCheckFault a s (fault.Solution name) = (g : Graph) × IsGameOfArrays a g × IsUnfitSolution g s (fault.Solution name)
IsCheckFault a s (fault.Winner v) = (g : Graph) × IsGameOfArrays a g × HaveSize g s × IsLeast (IsBadWinner s.winners) v
IsCheckFault a s (fault.Verdict f) =
    (g : Graph) × (rows : SolutionRows) × IsGameOfArrays a g × HaveSize g s × AreResults s.winners s.choices rows × FailsBy g rows f
IsCheckFault a s other = IsArraysFault a other

abbrev pub IsCheckOutcome : GameLists → ResultLists → Result (Unit {0}) Fault → Type 0
IsCheckOutcome a s result = MatchResult result (λ _. AreSolution a s) (IsCheckFault a s)
