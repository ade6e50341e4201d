use Rattle.pg_workers.proofs.Common.{◌≡◌, ◌+◌, ◌-◌, [], replicate, vec_len, vec_capacity, drawer, fresh}
use Rattle.pg_workers.proofs.jobs.Jobs.open.Given as goal

-- the seat that is split has the tickets that are still to be made
abbrev pub invariant-loop-i : goal.invariant-loop-i
invariant-loop-i l = record {
  table : l.remaining.table_id ≡ l.table.shared.table_id;
  seat : l.remaining.me ≡ (drawer l.total (l.seats + 1 - l._i) 0 [], []);
  tickets : l.tickets.items ≡ replicate (l._i - 1) (fresh (record { table = l.table.shared.table_id; total = l.total }));
  number : vec_len l.tickets + 1 ≡ l._i;
  capacity : vec_capacity l.tickets ≡ l.seats;
}
