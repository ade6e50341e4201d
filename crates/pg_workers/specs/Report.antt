-- The report of a run: one row for each job.
use Rattle.std.specs.Prelude.{ℕ, ◌≡◌, ◌≤◌, ◌<◌, ◌+◌, false, List, [], ◌∷◌, length, sum_by, take, drop, slice_get, Some, None, ◌≢◌}
use Rattle.pg_game.specs.declared.player.Player.TheVariants.{Even, Odd}
use Rattle.pg_workers.specs.declared.report.ReportRow.{ReportRow}
use Rattle.pg_board.specs.Journal.{Journal, number_settled}
use Rattle.pg_board.specs.Finish.{AreOfCaller}

-- the row of a job that no worker drew
abbrev pub blank_row : ℕ → ReportRow
blank_row job = record { job = job; worker = None; posted = 0; settled = 0; stale = 0; refused = 0; gave_up = false; memory = false }

-- row k is of job k
abbrev pub AreNumbered : List ReportRow → Type 0
AreNumbered report = (k : ℕ) (r : ReportRow) → slice_get report k ≡ Some r → r.job ≡ k

-- one row for each job, in order
abbrev pub IsInOrder : ℕ → List ReportRow → Type 0
IsInOrder total report = (length report ≡ total) × AreNumbered report

-- the sum of the column `settled`
abbrev pub settled_in : List ReportRow → ℕ
settled_in rows = sum_by (λ r. r.settled) rows

-- each posted claim settled a vertex or more
abbrev pub AreCounts : ReportRow → Type 0
AreCounts r = (r.posted ≤ r.settled) × (r.posted ≡ 0 → r.settled ≡ 0)

-- the row of a job that one of this many workers drew
pub record IsDrawnRow (workers : ℕ) (r : ReportRow) : Type 0 where
  pub drawn : r.worker ≢ None
  pub numbered : (w : ℕ) → r.worker ≡ Some w → (1 ≤ w) × (w ≤ workers)
  pub counts : AreCounts r

-- the workers drew a prefix of the jobs, and no other job
pub record IsReport (workers : ℕ) (report : List ReportRow) : Type 0 where
  pub drawn : ℕ
  pub done : (k : ℕ) (r : ReportRow) → slice_get report k ≡ Some r → k < drawn → IsDrawnRow workers r
  pub blank : (k : ℕ) (r : ReportRow) → slice_get report k ≡ Some r → drawn ≤ k → r ≡ blank_row k

-- The known vertices, of this number, and those that the workers settled are a prefix of the journal. Entries of the calling thread follow: one for
-- Even or none, and then one for Odd or none.
pub record AddsUp (known : ℕ) (journal : Journal) (report : List ReportRow) : Type 0 where
  pub by_workers : ℕ
  pub within : by_workers ≤ length journal
  pub last : length journal ≤ by_workers + 2
  pub settled : settled_in report + known ≡ number_settled (take by_workers journal)
  pub by_caller : AreOfCaller (Even ∷ Odd ∷ []) (drop by_workers journal)
