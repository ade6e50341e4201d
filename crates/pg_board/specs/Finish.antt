-- What the calling thread adds to a board, as worker 0.
use Rattle.std.specs.Prelude.{ℕ, ◌≡◌, ◌<◌, ◌≤◌, ◌-◌, ◌++◌, Bool, true, false, List, Option, None, Some, Result, length, map, filter, IfOk, OnErr}
use Rattle.std.specs.List.{AllByRecursion}
use Rattle.pg_game.specs.declared.player.Player.{Player}
use Rattle.pg_finders.specs.Steps.{priority_count, steps}
use Rattle.pg_board.specs.declared.journal.Entry.{Entry}
use Rattle.pg_board.specs.BoardRecord.{BoardRecord}
use Rattle.std.specs.declared.alloc.AllocError.{AllocError}
use Rattle.pg_board.specs.Full.{IsFull}
use Rattle.pg_board.specs.State.{unsettled}
use Rattle.pg_board.specs.Journal.{Journal, state_of, number_settled, IsLawful}

-- entries of worker 0, at most one for each of the players, in their order
pub record AreOfCaller (players : List Player) (entries : Journal) : Type 0 where
  pub worker : AllByRecursion (λ e. e.worker ≡ 0) entries
  pub posted : Player → Bool
  pub order : map (λ e. e.player) entries ≡ filter posted players

-- the same board with more entries, of worker 0: at most one for each of the players, in their order
pub record IsLater (players : List Player) (old new : BoardRecord) : Type 0 where
  pub graph : new.graph ≡ old.graph
  pub added : List Entry
  pub journal : new.journal ≡ old.journal ++ added
  pub few : length added ≤ length players
  pub by_caller : AreOfCaller players added

-- the same board with more entries, each of worker 0
pub record IsContinued (old new : BoardRecord) : Type 0 where
  pub graph : new.graph ≡ old.graph
  pub added : Journal
  pub journal : new.journal ≡ old.journal ++ added
  pub worker : AllByRecursion (λ e. e.worker ≡ 0) added

abbrev pub number_unsettled : BoardRecord → ℕ
number_unsettled b = length b.graph - number_settled b.journal

-- the number of different priorities of the vertices that are not settled
abbrev pub priorities_unsettled : BoardRecord → ℕ
priorities_unsettled b = priority_count b.graph (unsettled b.graph (state_of b.journal))

-- With n vertices to settle, of d different priorities, a call may give up under the limit of steps: there is one, and it is below the most
-- that they take. Without a vertex it may not.
abbrev pub MayGiveUp : Option ℕ → ℕ → ℕ → Type 0
MayGiveUp None d n = ⊥
MayGiveUp (Some k) d n = (0 < n) × (k < steps d n)

-- what a board answers that is to settle all, and what it then is: all is settled, or it is as before
pub record IsFinishAnswer (limit : Option ℕ) (old new : BoardRecord) (result : Result Bool AllocError) : Type 0 where
  pub lawful : IsLawful new.graph new.journal
  pub game : new.graph ≡ old.graph
  pub full : IfOk result (λ done. done ≡ true → IsFull new.graph (state_of new.journal))
  pub continued : IfOk result (λ done. done ≡ true → IsContinued old new)
  pub gave_up : IfOk result (λ done. done ≡ false → new ≡ old)
  pub unsettled : IfOk result (λ done. done ≡ false → IsFull old.graph (state_of old.journal) → ⊥)
  pub limited : IfOk result (λ done. done ≡ false → MayGiveUp limit (priorities_unsettled old) (number_unsettled old))
  pub unchanged : OnErr result (new ≡ old)
