-- The solution of a board as a text, and why there is none.
use Rattle.std.specs.Prelude.{ℕ, ◌≡◌, ◌<◌, List, length}
use Rattle.pg_text.specs.Solution.{SolutionRows, IsExactSolution}
use Rattle.pg_text.specs.Written.{written_solution}
use Rattle.pg_board.specs.BoardRecord.{BoardRecord}
use Rattle.pg_board.specs.Journal.{state_of}
use Rattle.pg_board.specs.Full.{IsFull, AreStateRows}
use Rattle.pgboard_c.specs.declared.fault.BoardFault.TheVariants as board_fault
use Rattle.pgboard_c.specs.declared.fault.Fault.{Fault}
use Rattle.pgboard_c.specs.declared.fault.Fault.TheVariants as fault
use Rattle.pgboard_c.specs.Texts.{TextBuffer, IsWritten}
use Rattle.pgboard_c.specs.Board.{SessionOutcome, IsReadOutcome, IsUnsettledBy}

-- the board is full, and the text has its winners and choices, which are the game's solution
abbrev pub IsBoardSolutionText : BoardRecord → List ℕ → Type 0
IsBoardSolutionText s text = IsFull s.graph (state_of s.journal) × ((rows : SolutionRows) × IsExactSolution s.graph rows
    × AreStateRows s.graph (state_of s.journal) rows × (text ≡ written_solution s.graph rows))

-- why a board's solution is not written; refused memory says nothing of it
abbrev pub IsSolutionTextFault : BoardRecord → ℕ → Fault → Type 0
IsSolutionTextFault s capacity fault.Memory = Unit {0}
IsSolutionTextFault s capacity (fault.Board (board_fault.Unsettled n)) = IsUnsettledBy s n
IsSolutionTextFault s capacity (fault.Capacity size) = (text : List ℕ) × IsBoardSolutionText s text × (size ≡ length text) × (capacity < size)
IsSolutionTextFault s capacity other = ⊥

abbrev pub IsSolutionTextOutcome : TextBuffer → TextBuffer → SessionOutcome
IsSolutionTextOutcome old new = IsReadOutcome (λ s. (answer : List ℕ) × IsBoardSolutionText s answer × IsWritten old new answer)
    (λ s. IsSolutionTextFault s (length old.bytes)) (new ≡ old)
