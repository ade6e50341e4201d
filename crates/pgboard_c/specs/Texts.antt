-- The answers of the calls on texts, and their refusals.
use Rattle.std.specs.Prelude.{ℕ, ◌≡◌, ◌<◌, ◌≤◌, ◌++◌, List, length, drop, Result, MatchResult}
use Rattle.pg_game.specs.Graph.{Graph}
use Rattle.pg_text.specs.Solution.{SolutionRows, IsSolution, IsExactSolution}
use Rattle.pg_text.specs.Reading.{max_text, IsTextOf, IsFaultOf, IsSolutionTextOf, IsSolutionFaultOf}
use Rattle.pg_text.specs.Written.{written_game, written_solution}
use Rattle.pg_dominion.specs.Verdict.{FailsBy}
use Rattle.pgboard_c.specs.declared.fault.Fault.{Fault}
use Rattle.pgboard_c.specs.declared.fault.Fault.TheVariants as fault

-- where a call writes a text: a buffer, and a number for the text's size
pub record TextBuffer : Type 0 where
  pub bytes : List ℕ
  pub size : ℕ

abbrev pub text_buffer : List ℕ → ℕ → TextBuffer
text_buffer bytes size = record { bytes = bytes; size = size }

-- the text is at the front of the buffer, and the bytes after it are unchanged
abbrev pub IsWritten : TextBuffer → TextBuffer → List ℕ → Type 0
IsWritten old new text = (new.size ≡ length text) × (new.bytes ≡ text ++ drop new.size old.bytes)

-- a solution of the game that a text spells, with a choice exactly where the winner owns the vertex
abbrev pub IsSolvedText : List ℕ → List ℕ → Type 0
IsSolvedText text answer = (g : Graph) × (rows : SolutionRows) × IsTextOf text g × IsExactSolution g rows × (answer ≡ written_solution g rows)

-- the game that a text spells, in its one written form
abbrev pub IsTidyText : List ℕ → List ℕ → Type 0
IsTidyText text answer = (g : Graph) × IsTextOf text g × (answer ≡ written_game g)

-- why a text is none of a game; refused memory says nothing of it
abbrev pub IsRefusedGameText : List ℕ → Fault → Type 0
IsRefusedGameText text fault.Memory = Unit {0}
IsRefusedGameText text fault.GameTooLong = max_text < length text
IsRefusedGameText text (fault.GameText f) = (length text ≤ max_text) × IsFaultOf text f
IsRefusedGameText text other = ⊥

-- why a text has no answer of the kind, for a buffer of this many bytes
abbrev pub IsTextFault : (List ℕ → List ℕ → Type 0) → List ℕ → ℕ → Fault → Type 0
IsTextFault Is text capacity (fault.Capacity size) = (answer : List ℕ) × Is text answer × (size ≡ length answer) × (capacity < size)
IsTextFault Is text capacity other = IsRefusedGameText text other

-- the text's answer of the kind is at the front of the buffer, and its size is reported; or there is none, and both are unchanged
abbrev pub IsTextOutcome : (List ℕ → List ℕ → Type 0) → List ℕ → TextBuffer → TextBuffer → Result (Unit {0}) Fault → Type 0
IsTextOutcome Is text old new result = MatchResult result
    (λ _. (answer : List ℕ) × Is text answer × IsWritten old new answer) (λ e. IsTextFault Is text (length old.bytes) e × (new ≡ old))

-- the texts spell a game and a solution of it
abbrev pub AreVerified : List ℕ → List ℕ → Type 0
AreVerified game solution = (g : Graph) × (rows : SolutionRows) × IsTextOf game g × IsSolutionTextOf g solution rows × IsSolution g rows

-- why they do not; the game's fault comes before those of the solution
abbrev pub IsVerifyFault : List ℕ → List ℕ → Fault → Type 0
IsVerifyFault game solution fault.SolutionTooLong = (g : Graph) × IsTextOf game g × (max_text < length solution)
IsVerifyFault game solution (fault.SolutionText f) = (g : Graph) × IsTextOf game g × (length solution ≤ max_text) × IsSolutionFaultOf g solution f
IsVerifyFault game solution (fault.Verdict f) = (g : Graph) × (rows : SolutionRows) × IsTextOf game g × IsSolutionTextOf g solution rows × FailsBy g rows f
IsVerifyFault game solution other = IsRefusedGameText game other

abbrev pub IsVerifyOutcome : List ℕ → List ℕ → Result (Unit {0}) Fault → Type 0
IsVerifyOutcome game solution result = MatchResult result (λ _. AreVerified game solution) (IsVerifyFault game solution)
