use Rattle.pg_workers.proofs.Common.{◌≡◌, ◌+◌, ◌≤◌, All, map, vec_len, vec_capacity, IsDrawnRow, settled_in}
use Rattle.pg_workers.proofs.threads.take_apart.Given as goal

abbrev pub invariant-loop-worker : goal.invariant-loop-worker
invariant-loop-worker g l = record {
  shares : vec_len l.workers + vec_len l.shares ≡ vec_len l.initial.workers;
  tickets : vec_len l.workers + vec_len l.tickets ≡ vec_len l.initial.workers;
  rows : vec_len l.workers + vec_len l.rows ≡ vec_len l.initial.workers;
  spare_shares : vec_capacity l.shares ≡ vec_capacity l.initial.shares;
  spare_tickets : vec_len l.initial.workers ≤ vec_capacity l.tickets;
  spare_rows : vec_len l.initial.workers ≤ vec_capacity l.rows;
  amounts : map (λ rows. settled_in rows.items) l.rows.items ≡ l.shares.items;
  of_jobs : All (λ t. t.series ≡ g.J.RunJobs.series) l.tickets.items;
  numbers : map (λ rows. map (λ r. r.job) rows.items) l.rows.items ≡ map (λ t. t.numbers) l.tickets.items;
  done : All (λ rows. All (IsDrawnRow g.J.RunJobs.workers) rows.items) l.rows.items;
}

abbrev pub decreases-loop-worker : goal.decreases-loop-worker
decreases-loop-worker g l = vec_len l.workers
