use Rattle.pg_workers.proofs.Common.{◌≡◌, ◌++◌, length, into_iter_items, AreCounted}
use Rattle.pg_workers.proofs.worker.Task.settle_all.Given as goal

abbrev pub invariant-loop-claim : goal.invariant-loop-claim
invariant-loop-claim g l = record {
  claims : l.yielded ++ into_iter_items l.claim-iterator ≡ into_iter_items l.initial.claim-iterator;
  counted : AreCounted (length l.yielded) l.initial.row l.row l.initial.share l.share;
}
