-- A game and a solution in one text, and the verdict on them.
use Rattle.std.specs.Prelude.{ℕ, ◌≢◌, ◌<◌, ◌≤◌, ◌==◌, List, [], ◌++◌, codes}
use Rattle.std.specs.List.{before_first, after_first}
use Rattle.pg_game.specs.Graph.{Graph}
use Rattle.pg_text.specs.Written.{numeral}
use Rattle.pg_text.specs.Solution.{SolutionRows, IsSolution}
use Rattle.pg_text.specs.Reading.{max_text, IsTextOf, IsFaultOf, IsSolutionTextOf, IsSolutionFaultOf}
use Rattle.pg_text.specs.declared.fault.TextFault.TheVariants as game_fault
use Rattle.pg_text.specs.declared.fault.SolutionTextFault.TheVariants as solution_fault
use Rattle.pg_dominion.specs.declared.solution.SolutionFault.{SolutionFault}
use Rattle.pg_dominion.specs.declared.solution.SolutionFault.TheVariants.{NoChoice, BadChoice, Leaves, Cycle, Memory}
use Rattle.pg_dominion.specs.Verdict.{FailsBy}
use Rattle.pgboard.specs.declared.verify.Verdict.{Verdict}
use Rattle.pgboard.specs.declared.verify.Verdict.TheVariants.{Holds, Fails}
use Rattle.pgboard.specs.declared.fault.RunFault.{RunFault}
use Rattle.pgboard.specs.declared.fault.RunFault.TheVariants as fault

-- the game before the first `%`, and the solution after it, or nothing without a `%`
abbrev pub game_part : List ℕ → List ℕ
game_part text = before_first (λ b. b == 37) text

abbrev pub solution_part : List ℕ → List ℕ
solution_part text = after_first (λ b. b == 37) text

abbrev pub IsVerdict : Graph → SolutionRows → Verdict → Type 0
IsVerdict g rows Holds = IsSolution g rows
IsVerdict g rows (Fails fault) = FailsBy g rows fault × (fault ≢ Memory)

abbrev pub fault_text : SolutionFault → List ℕ
fault_text (NoChoice v) = codes "no choice at " ++ numeral v
fault_text (BadChoice v) = codes "bad choice at " ++ numeral v
fault_text (Leaves v w) = numeral v ++ codes " leaves to " ++ numeral w
fault_text (Cycle v) = codes "bad cycle at " ++ numeral v
fault_text Memory = []

abbrev pub verdict_line : Verdict → List ℕ
verdict_line Holds = codes "ok\n"
verdict_line (Fails fault) = codes "not a solution: " ++ (fault_text fault ++ codes "\n")

-- the texts spell a game, and winners and choices for it, and the verdict is true of these
pub record IsJudged (game solution : List ℕ) (verdict : Verdict) : Type 0 where
  pub graph : Graph
  pub rows : SolutionRows
  pub game_is : IsTextOf game graph
  pub solution_is : IsSolutionTextOf graph solution rows
  pub verdict_is : IsVerdict graph rows verdict

-- why a run on a joined text of len bytes has no verdict
abbrev pub JudgingFailed : List ℕ → List ℕ → ℕ → RunFault → Type 0
JudgingFailed game solution len fault.Read = Unit {0}
JudgingFailed game solution len fault.TooLong = max_text < len
JudgingFailed game solution len (fault.Game f) = (len ≤ max_text) × IsFaultOf game f × (f ≢ game_fault.Memory)
JudgingFailed game solution len (fault.Solution f) =
    (len ≤ max_text) × (g : Graph) × IsTextOf game g × IsSolutionFaultOf g solution f × (f ≢ solution_fault.Memory)
JudgingFailed game solution len (fault.Known f) = ⊥
JudgingFailed game solution len fault.Write = (len ≤ max_text) × (verdict : Verdict) × IsJudged game solution verdict
JudgingFailed game solution len fault.Memory = Unit {0}
