-- The report of a run: one row for each job (private).
use Rattle.std.specs.Prelude.{ℕ, ◌≡◌, ◌≤◌, ◌<◌, ◌+◌, ◌⊎◌, true, false, List, length, map, flat_map, slice_get, Some, Result, Ok, Err, Vec}
use Rattle.std.specs.Global.{Global}
use Rattle.pg_workers.specs.declared.report.ReportRow.{ReportRow}
use Rattle.pg_workers.specs.Counting.{times, once_below}
use Rattle.pg_game.specs.Graph.{Graph}
use Rattle.pg_dominion.specs.Checked.{CheckedClaim, claim_of, AgreesWithGame}
use Rattle.pg_dominion.specs.Fault.{IsClaimFault}
use Rattle.pg_dominion.specs.declared.claim.Claim.{Claim}
use Rattle.pg_dominion.specs.declared.claim.ClaimFault.{ClaimFault}
use Rattle.pg_board.specs.BoardRecord.{BoardRecord}
use Rattle.pg_board.specs.Office.{IsCheckedAnswerOfSome}
use Rattle.pg_board.specs.Refusal.{refusal_of}
use Rattle.pg_board.specs.declared.journal.Refusal.{Refusal}
use Rattle.pg_board.specs.declared.journal.Refusal.TheVariants as refusal
use Rattle.pg_workers.specs.Report.{AreCounts, blank_row}

-- no worker drew a job
abbrev pub AreBlank : List ReportRow → Type 0
AreBlank report = (k : ℕ) (r : ReportRow) → slice_get report k ≡ Some r → r ≡ blank_row k

-- the numbers of the rows' jobs
abbrev pub jobs_in : List ReportRow → List ℕ
jobs_in rows = map (λ r. r.job) rows

-- the number of rows of job j
abbrev pub how_many_of_job : ℕ → List ReportRow → ℕ
how_many_of_job j rows = times j (jobs_in rows)

-- the rows of all workers
abbrev pub rows_in : List (Vec ReportRow Global) → List ReportRow
rows_in all = flat_map (λ rows. rows.items) all

-- each of the first n jobs has one row, and no other job has any
abbrev pub AreOfPrefix : ℕ → List ReportRow → Type 0
AreOfPrefix n rows = (j : ℕ) → how_many_of_job j rows ≡ once_below j n

-- no two rows are of one job, and the report's row of each is still that of a job that no worker drew
pub record HasFreePlaces (report rows : List ReportRow) : Type 0 where
  pub once : (j : ℕ) → how_many_of_job j rows ≤ 1
  pub free : (j : ℕ) → 0 < how_many_of_job j rows → slice_get report j ≡ Some (blank_row j)

-- each row is at the place of its job, and every other place is unchanged
pub record AreNotedRows (before after rows : List ReportRow) : Type 0 where
  pub size : length after ≡ length before
  pub placed : (i : ℕ) (r : ReportRow) → slice_get rows i ≡ Some r → slice_get after r.job ≡ Some r
  pub others : (j : ℕ) → how_many_of_job j rows ≡ 0 → slice_get after j ≡ slice_get before j

-- the row after the answer to one claim
abbrev pub noted : ReportRow → Result ℕ Refusal → ReportRow
noted r (Ok n) = record r { posted = r.posted + 1; settled = r.settled + n }
noted r (Err refusal.Stale) = record r { stale = r.stale + 1 }
noted r (Err refusal.Memory) = record r { memory = true }
noted r (Err fault) = record r { refused = r.refused + 1 }

-- the row as if none of its claims had been posted
abbrev pub without_posts : ReportRow → ReportRow
without_posts r = record r { posted = 0; settled = 0 }

-- the number of claims of the job that were posted, stale or refused
abbrev pub answered : ReportRow → ℕ
answered r = r.posted + r.stale + r.refused

-- the row of a job that this worker drew
pub record IsWorkersRow (job worker : ℕ) (r : ReportRow) : Type 0 where
  pub job_is : r.job ≡ job
  pub worker_is : r.worker ≡ Some worker
  pub counts : AreCounts r

-- The row counts the answers to this many further claims of its job, or to fewer if memory was refused. The worker's share rises by what they settled.
pub record AreCounted (claims : ℕ) (old new : ReportRow) (share later : ℕ) : Type 0 where
  pub job : new.job ≡ old.job
  pub worker : new.worker ≡ old.worker
  pub few : answered new ≤ answered old + claims
  pub all : new.memory ≡ false → answered new ≡ answered old + claims
  pub counts : AreCounts old → AreCounts new
  pub settled : later + old.settled ≡ share + new.settled

-- the answer to a claim: why its check on the game failed, or the answer of some board of the office to the checked claim, which
-- agrees with the game
abbrev pub IsClaimAnswer : BoardRecord → ℕ → ℕ → Graph → Claim → Result ℕ Refusal → Type 0
IsClaimAnswer opened amount worker g claim answer =
    ((fault : ClaimFault) × IsClaimFault g claim.player claim.rows fault × (answer ≡ Err (refusal_of fault)))
    ⊎ ((checked : CheckedClaim) × (claim_of checked ≡ claim) × AgreesWithGame g checked.player checked.rows
    × IsCheckedAnswerOfSome opened amount worker checked answer)
