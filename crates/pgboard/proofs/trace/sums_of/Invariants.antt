use Rattle.pgboard.proofs.Common.{◌≡◌, ◌≤◌, ◌*◌, ◌^◌, take, sum_by}
use Rattle.pgboard.proofs.trace.sums_of.Given as goal

abbrev pub invariant-loop-row : goal.invariant-loop-row
invariant-loop-row l = record {
  posted : l.sums.posted ≡ sum_by (λ r. r.posted) (take l.row-index l.report);
  settled : l.sums.settled ≡ sum_by (λ r. r.settled) (take l.row-index l.report);
  stale : l.sums.stale ≡ sum_by (λ r. r.stale) (take l.row-index l.report);
  refused : l.sums.refused ≡ sum_by (λ r. r.refused) (take l.row-index l.report);
  posted_fits : l.sums.posted ≤ l.row-index * 2 ^ 64;
  settled_fits : l.sums.settled ≤ l.row-index * 2 ^ 64;
  stale_fits : l.sums.stale ≤ l.row-index * 2 ^ 64;
  refused_fits : l.sums.refused ≤ l.row-index * 2 ^ 64;
}
