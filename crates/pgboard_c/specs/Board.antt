-- The answers of the calls on a board that C holds. The board is none where it is closed, and else a game with the journal of its settled
-- vertices.
use Rattle.std.specs.Prelude.{ℕ, ◌≡◌, ◌<◌, ◌≤◌, ◌+◌, ◌-◌, List, [], length, slice_index}
use Rattle.std.specs.Prelude.{Option, Some, None, IfSome, IsSome, Result, MatchResult, OnOk, OnErr, IfErr}
use Rattle.pg_game.specs.declared.player.Player.{Player}
use Rattle.pg_game.specs.Player.{digit_of}
use Rattle.pg_game.specs.Graph.{Graph}
use Rattle.pg_text.specs.Solution.{SolutionRows, IsExactSolution}
use Rattle.pg_game.specs.VertexSet.{In}
use Rattle.pg_board.specs.BoardRecord.{BoardRecord, SessionRecord}
use Rattle.pg_board.specs.State.{unsettled}
use Rattle.pg_board.specs.Board.{IsLawfulBoard}
use Rattle.pg_board.specs.Slices.{most_slices, most_steps, IsSearch, IsCharged, IsLastCharged}
use Rattle.pg_board.specs.Journal.{state_of, number_settled}
use Rattle.pg_board.specs.Full.{IsFull, AreStateRows}
use Rattle.pg_board.specs.Finish.{IsContinued, MayGiveUp, number_unsettled, priorities_unsettled}
use Rattle.pgboard_c.specs.declared.arrays.Results.{Results}
use Rattle.pgboard_c.specs.declared.held.Handle.{Handle}
use Rattle.pgboard_c.specs.declared.fault.BoardFault.TheVariants as board_fault
use Rattle.pgboard_c.specs.declared.fault.Fault.{Fault}
use Rattle.pgboard_c.specs.declared.fault.Fault.TheVariants as fault
use Rattle.pgboard_c.specs.Arrays.{ResultLists, result_lists, AreResults, no_choice, choice_number, IsSameStruct, AreUnchanged}
use Rattle.pgboard_c.specs.Answers.{HaveSize, AreUnfitResults}
use Rattle.pgboard_c.specs.KnownArrays.{no_winner}

-- the session of a handle
abbrev pub session_in : Handle → Option SessionRecord
session_in h = h.held.value

-- the most slices of at least a step that remain of it
abbrev pub slices_in : Option SessionRecord → ℕ
slices_in None = 0
slices_in (Some s) = s.slices

-- its board is lawful, and no more slices remain than its vertices take
abbrev pub IsLawfulSession : Option SessionRecord → Type 0
IsLawfulSession s = IfSome s (λ s. IsLawfulBoard s.board × (s.slices ≤ most_slices s.board.graph))

-- what a call did: the session that it found, the session that it left, and its result
abbrev pub SessionOutcome : Type 1
SessionOutcome = Option SessionRecord → Option SessionRecord → Result (Unit {0}) Fault → Type 0

-- a call through a handle did this to its session, which is lawful before and after it
abbrev pub OnHandle : SessionOutcome → Handle → Handle → Result (Unit {0}) Fault → Type 0
OnHandle Outcome old new result = IsLawfulSession (session_in old) × IsLawfulSession (session_in new) × Outcome (session_in old) (session_in new) result

-- the refusal of a call on a closed board
abbrev pub closed_fault : Fault
closed_fault = fault.Board board_fault.Closed

-- the fault is that the board is closed, or one of the open board
abbrev pub OnBoard : Option SessionRecord → (BoardRecord → Fault → Type 0) → Fault → Type 0
OnBoard None of e = e ≡ closed_fault
OnBoard (Some s) of e = of s.board e

-- the board is open, and the call is done; or there is a fault, and the session and what else the call writes are unchanged
abbrev pub IsBoardOutcome : (SessionRecord → SessionRecord → Type 0) → (BoardRecord → Fault → Type 0) → Type 0 → SessionOutcome
IsBoardOutcome Done Refused Kept = λ old new result. MatchResult result
    (λ _. (s : SessionRecord) × (t : SessionRecord) × (old ≡ Some s) × (new ≡ Some t) × Done s t) (λ e. OnBoard old Refused e × (new ≡ old) × Kept)

-- the same, and the session is unchanged in any case
abbrev pub IsReadOutcome : (BoardRecord → Type 0) → (BoardRecord → Fault → Type 0) → Type 0 → SessionOutcome
IsReadOutcome Done = IsBoardOutcome (λ s t. (t ≡ s) × Done s.board)

-- the board is open already, or the game has a fault
abbrev pub IsOpenFault : (Fault → Type 0) → Option SessionRecord → Fault → Type 0
IsOpenFault Refused b (fault.Board board_fault.Open) = IsSome b
IsOpenFault Refused b other = (b ≡ None) × Refused other

-- the board was closed, and is now one of such a game on which nothing is settled; or it is unchanged
abbrev pub IsOpenOutcome : (Graph → Type 0) → (Fault → Type 0) → Handle → Handle → Result (Unit {0}) Fault → Type 0
IsOpenOutcome Is Refused old new result = MatchResult result
    (λ _. (g : Graph) × (s : SessionRecord) × Is g × (session_in old ≡ None) × (session_in new ≡ Some s) × (s.board ≡ record { graph = g; journal = [] })
    × IsLawfulSession (session_in new))
    (λ e. IsOpenFault Refused (session_in old) e × (session_in new ≡ session_in old))

abbrev pub number_settled_on : Option SessionRecord → ℕ
number_settled_on None = 0
number_settled_on (Some s) = number_settled s.board.journal

abbrev pub number_of_entries : Option SessionRecord → ℕ
number_of_entries None = 0
number_of_entries (Some s) = length s.board.journal

-- the numbers for a vertex's state
abbrev pub winner_number : Option (Player × Option ℕ) → ℕ
winner_number None = no_winner
winner_number (Some r) = digit_of r.0

abbrev pub chosen_number : Option (Player × Option ℕ) → ℕ
chosen_number None = no_choice
chosen_number (Some r) = choice_number r.1

-- the winner and the choice of each vertex as it is settled, or that it has none
pub record AreStates (s : BoardRecord) (winners choices : List ℕ) : Type 0 where
  pub winners_size : length winners ≡ length s.graph
  pub choices_size : length choices ≡ length s.graph
  pub winners_are : (v : ℕ) → v < length s.graph → slice_index winners v ≡ winner_number (state_of s.journal v)
  pub choices_are : (v : ℕ) → v < length s.graph → slice_index choices v ≡ chosen_number (state_of s.journal v)

abbrev pub IsStateOutcome : Results → Results → SessionOutcome
IsStateOutcome old new = IsReadOutcome
    (λ s. HaveSize s.graph (result_lists new) × AreStates s new.winners.now new.choices.now × IsSameStruct old new)
    (λ s. AreUnfitResults s.graph (result_lists old)) (AreUnchanged old new)

-- the board is not full: this many vertices are unsettled
abbrev pub IsUnsettledBy : BoardRecord → ℕ → Type 0
IsUnsettledBy s n = (IsFull s.graph (state_of s.journal) → ⊥) × (n + number_settled s.journal ≡ length s.graph)

-- every vertex is settled, by further entries of worker 0
abbrev pub IsFinished : BoardRecord → BoardRecord → Type 0
IsFinished s t = IsFull t.graph (state_of t.journal) × IsContinued s t

-- why a board is not finished: memory was refused, or it gave up under a limit of steps that may be too low, with a vertex unsettled
abbrev pub IsFinishFault : Option ℕ → BoardRecord → Fault → Type 0
IsFinishFault limit s fault.GaveUp = MayGiveUp limit (priorities_unsettled s) (number_unsettled s) × (IsFull s.graph (state_of s.journal) → ⊥)
IsFinishFault limit s other = other ≡ fault.Memory

abbrev pub IsFinishOutcome : Option ℕ → SessionOutcome
IsFinishOutcome limit = IsBoardOutcome (λ s t. IsFinished s.board t.board) (IsFinishFault limit) (Unit {0})

-- the same board with more entries of worker 0; a closed one stays closed
abbrev pub IsContinuedOn : Option SessionRecord → Option SessionRecord → Type 0
IsContinuedOn None new = new ≡ None
IsContinuedOn (Some s) new = (t : SessionRecord) × (new ≡ Some t) × IsContinued s.board t.board

-- why a board is not full yet: this many vertices are unsettled, or memory was refused
abbrev pub IsAdvanceFault : BoardRecord → Fault → Type 0
IsAdvanceFault s (fault.Board (board_fault.Unsettled n)) = IsUnsettledBy s n
IsAdvanceFault s other = other ≡ fault.Memory

-- where vertices are unsettled, fewer slices remain: by one at least if it might take a step, and by as many as it took
abbrev pub IsNearer : ℕ → ℕ → Option SessionRecord → Option SessionRecord → Fault → Type 0
IsNearer old_steps new_steps old new (fault.Board (board_fault.Unsettled n)) =
    (0 < old_steps → slices_in new < slices_in old) × (slices_in new + (old_steps - new_steps) ≤ slices_in old)
IsNearer old_steps new_steps old new other = Unit {0}

-- where vertices are unsettled, it has left what a slice of that session leaves; and where memory was refused, a search has taken no step
abbrev pub HasCharged : ℕ → ℕ → SessionRecord → Option SessionRecord → Fault → Type 0
HasCharged old_steps new_steps s new (fault.Board (board_fault.Unsettled n)) =
    IsCharged (most_steps s.board.graph) s.slices (slices_in new) old_steps new_steps
HasCharged old_steps new_steps s new fault.Memory = IsSearch (most_steps s.board.graph) s.slices → new_steps ≡ old_steps
HasCharged old_steps new_steps s new other = Unit {0}

-- and where it settles the last vertex, what the last slice of that session leaves
abbrev pub HasLastCharged : ℕ → ℕ → SessionRecord → Type 0
HasLastCharged old_steps new_steps s =
    (v : ℕ) → In (unsettled s.board.graph (state_of s.board.journal)) v → IsLastCharged (most_steps s.board.graph) s.slices old_steps new_steps

-- more is settled, also where there is a fault; a closed board takes no step, and a full one is unchanged and takes none
pub record IsAdvanceOutcome (old_steps new_steps : ℕ) (old new : Option SessionRecord) (result : Result (Unit {0}) Fault) : Type 0 where
  pub continued : IsContinuedOn old new
  pub full : OnOk result ((t : SessionRecord) × (new ≡ Some t) × IsFull t.board.graph (state_of t.board.journal))
  pub fault : IfErr result (OnBoard new IsAdvanceFault)
  pub nearer : IfErr result (IsNearer old_steps new_steps old new)
  pub charged : IfErr result (λ e. IfSome old (λ s. HasCharged old_steps new_steps s new e))
  pub last : OnOk result (IfSome old (HasLastCharged old_steps new_steps))
  pub whole : IfSome old (λ s. IsFull s.board.graph (state_of s.board.journal) → OnErr result ⊥ × (new ≡ old) × (new_steps ≡ old_steps))
  pub steps : new_steps ≤ old_steps
  pub closed : old ≡ None → new_steps ≡ old_steps

-- the board is full, and the arrays have its winners and choices, which are the game's solution
pub record AreBoardSolution (s : BoardRecord) (r : ResultLists) : Type 0 where
  pub full : IsFull s.graph (state_of s.journal)
  pub fit : HaveSize s.graph r
  pub rows : SolutionRows
  pub results : AreResults r.winners r.choices rows
  pub exact : IsExactSolution s.graph rows
  pub state : AreStateRows s.graph (state_of s.journal) rows

-- why a board has no solution; refused memory says nothing of it
abbrev pub IsSolutionFault : BoardRecord → ResultLists → Fault → Type 0
IsSolutionFault s r fault.Memory = Unit {0}
IsSolutionFault s r (fault.Board (board_fault.Unsettled n)) = HaveSize s.graph r × IsUnsettledBy s n
IsSolutionFault s r e = AreUnfitResults s.graph r e

abbrev pub IsSolutionOutcome : Results → Results → SessionOutcome
IsSolutionOutcome old new =
    IsReadOutcome (λ s. AreBoardSolution s (result_lists new) × IsSameStruct old new) (λ s. IsSolutionFault s (result_lists old)) (AreUnchanged old new)
