use Rattle.pg_workers.proofs.Common.{◌≡◌, ◌+◌, map, replicate, vec_len, vec_capacity, fresh}
use Rattle.std.specs.List.{range_with_len}
use Rattle.pg_workers.proofs.threads.new_workers.Given as goal

abbrev pub invariant-loop-share : goal.invariant-loop-share
invariant-loop-share g l = record {
  all : vec_len l.shares + vec_len l.workers ≡ vec_len l.initial.shares;
  shares : l.shares.items ≡ replicate (vec_len l.shares) 0;
  tickets : l.tickets.items ≡ replicate (vec_len l.shares) (fresh g.J.RunJobs.series);
  capacity : vec_capacity l.workers ≡ vec_len l.initial.shares;
  numbers : map (λ w. w.number) l.workers.items ≡ range_with_len 1 (vec_len l.workers);
}

abbrev pub decreases-loop-share : goal.decreases-loop-share
decreases-loop-share g l = vec_len l.shares
