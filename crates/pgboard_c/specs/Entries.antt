-- A journal entry in arrays, and why there is none.
use Rattle.std.specs.Prelude.{ℕ, ◌≡◌, ◌<◌, ◌≤◌, ◌⊎◌, List, length, slice_get, slice_index, Option, Some}
use Rattle.pg_game.specs.Player.{digit_of}
use Rattle.pg_dominion.specs.Claim.{ClaimRows}
use Rattle.pg_board.specs.declared.journal.Entry.{Entry}
use Rattle.pg_board.specs.BoardRecord.{BoardRecord}
use Rattle.pgboard_c.specs.declared.board.EntryNumbers.{EntryNumbers}
use Rattle.pgboard_c.specs.declared.fault.BoardFault.TheVariants as board_fault
use Rattle.pgboard_c.specs.declared.fault.Fault.{Fault}
use Rattle.pgboard_c.specs.declared.fault.Fault.TheVariants as fault
use Rattle.pgboard_c.specs.Arrays.{choice_number}
use Rattle.pgboard_c.specs.Board.{SessionOutcome, IsReadOutcome}

-- what the call writes of an entry
pub record EntryLists : Type 0 where
  pub numbers : EntryNumbers
  pub vertices : List ℕ
  pub choices : List ℕ

abbrev pub entry_lists : EntryNumbers → List ℕ → List ℕ → EntryLists
entry_lists n vertices choices = record { numbers = n; vertices = vertices; choices = choices }

-- the rows are at the front of the arrays, and what is after them is unchanged
pub record AreEntryRows (rows : ClaimRows) (old_vertices old_choices vertices choices : List ℕ) : Type 0 where
  pub vertices_size : length vertices ≡ length old_vertices
  pub choices_size : length choices ≡ length old_choices
  pub vertices_are : (i : ℕ) (r : ℕ × Option ℕ) → slice_get rows i ≡ Some r → slice_index vertices i ≡ r.0
  pub choices_are : (i : ℕ) (r : ℕ × Option ℕ) → slice_get rows i ≡ Some r → slice_index choices i ≡ choice_number r.1
  pub vertices_kept : (i : ℕ) → length rows ≤ i → slice_index vertices i ≡ slice_index old_vertices i
  pub choices_kept : (i : ℕ) → length rows ≤ i → slice_index choices i ≡ slice_index old_choices i

-- the numbers and the rows of the journal's entry with this number, from 0
pub record IsEntry (s : BoardRecord) (number : ℕ) (old new : EntryLists) : Type 0 where
  pub entry : Entry
  pub found : slice_get s.journal number ≡ Some entry
  pub worker : new.numbers.worker ≡ entry.worker
  pub player : new.numbers.player ≡ digit_of entry.player
  pub claimed : new.numbers.claimed ≡ entry.claimed
  pub rows : new.numbers.rows ≡ length entry.rows
  pub written : AreEntryRows entry.rows old.vertices old.choices new.vertices new.choices
  pub fit : (length entry.rows ≤ length old.vertices) × (length entry.rows ≤ length old.choices)

-- no entry has the number, or an array is shorter than its rows
abbrev pub IsEntryFault : BoardRecord → ℕ → EntryLists → Fault → Type 0
IsEntryFault s number old (fault.Board (board_fault.Entry n)) = (n ≡ length s.journal) × (n ≤ number)
IsEntryFault s number old (fault.Capacity n) =
    (e : Entry) × (slice_get s.journal number ≡ Some e) × (n ≡ length e.rows) × ((length old.vertices < n) ⊎ (length old.choices < n))
IsEntryFault s number old other = ⊥

abbrev pub IsEntryOutcome : ℕ → EntryLists → EntryLists → SessionOutcome
IsEntryOutcome number old new = IsReadOutcome (λ s. IsEntry s number old new) (λ s. IsEntryFault s number old) (new ≡ old)
