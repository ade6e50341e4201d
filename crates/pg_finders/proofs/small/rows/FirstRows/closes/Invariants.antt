use Rattle.pg_finders.proofs.Common.{ℕ, ◌≢◌, ◌<◌, ◌≤◌, slice_index, row_at}
use Rattle.pg_finders.proofs.small.rows.FirstRows.closes.Given as goal

abbrev pub invariant-loop-w : goal.invariant-loop-w
invariant-loop-w l = (k : ℕ) → k < l.w-index → (to : ℕ) → to ≤ l.at → (row_at l.self.chosen.now to).0 ≢ slice_index l.w-items k
