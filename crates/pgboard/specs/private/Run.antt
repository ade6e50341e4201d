-- What a run knows of the texts of its sources, why it has no result, and the rows of its journal (private).
use Rattle.std.specs.Prelude.{ℕ, ◌≢◌, ◌<◌, ◌≤◌, List, length, Option, IfSome}
use Rattle.pg_game.specs.Graph.{Graph}
use Rattle.pg_text.specs.Known.{KnownRows}
use Rattle.pg_text.specs.Solution.{SolutionRows}
use Rattle.pg_text.specs.Reading.{max_text, IsFaultOf, IsSolutionTextOf, IsSolutionFaultOf}
use Rattle.pg_text.specs.declared.fault.TextFault.TheVariants as game_fault
use Rattle.pg_text.specs.declared.fault.SolutionTextFault.TheVariants as solution_fault
use Rattle.pg_workers.specs.KnownRegions.{IsRefusedSet}
use Rattle.pgboard.specs.declared.verify.Verdict.{Verdict}
use Rattle.pgboard.specs.declared.fault.RunFault.{RunFault}
use Rattle.pgboard.specs.declared.fault.RunFault.TheVariants as fault
use Rattle.pgboard.specs.Joined.{IsVerdict}

-- why the text is none of a game
abbrev pub IsRefusedGame : List ℕ → RunFault → Type 0
IsRefusedGame text (fault.Game f) = IsFaultOf text f × (f ≢ game_fault.Memory)
IsRefusedGame text fault.Memory = Unit {0}
IsRefusedGame text _ = ⊥

-- why the text is no solution text of the game
abbrev pub IsRefusedSolution : Graph → List ℕ → RunFault → Type 0
IsRefusedSolution g text (fault.Solution f) = IsSolutionFaultOf g text f × (f ≢ solution_fault.Memory)
IsRefusedSolution g text fault.Memory = Unit {0}
IsRefusedSolution g text _ = ⊥

-- the text that a source had, if it is known, is within the limit and one of these winners and choices for the game
abbrev pub IsReadSolution : Graph → Option (List ℕ) → SolutionRows → Type 0
IsReadSolution g known rows = IfSome known (λ text. (length text ≤ max_text) × IsSolutionTextOf g text rows)

-- the verdict is true of the winners and choices that the text spells for the game
abbrev pub IsVerdictOn : Graph → List ℕ → Verdict → Type 0
IsVerdictOn g text verdict = (rows : SolutionRows) × IsSolutionTextOf g text rows × IsVerdict g rows verdict

-- why the game was not solved from what is known of it
abbrev pub IsNotSolved : Graph → KnownRows → RunFault → Type 0
IsNotSolved g known (fault.Known f) = IsRefusedSet g known f
IsNotSolved g known fault.Memory = Unit {0}
IsNotSolved g known _ = ⊥

-- the row names vertices below the number
pub record NamesVertices (n : ℕ) (r : ℕ × Option ℕ) : Type 0 where
  pub vertex : r.0 < n
  pub choice : IfSome r.1 (λ w. w < n)
