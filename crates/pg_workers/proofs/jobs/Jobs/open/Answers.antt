use Rattle.pg_workers.proofs.Common.{ap, arith}
use Rattle.pg_workers.proofs.jobs.WordSteps.{splits}
use Rattle.pg_workers.proofs.jobs.Jobs.open.Goals as goal

pub split_seat-seat-requires : goal.split_seat-seat-requires
split_seat-seat-requires c =
    let i = c.loop-i.invariant in let t = c.in_ok-table.ensures in
    let many = ap (λ m. m.0.tickets) i.seat in let more = c.loop-i-test.true in
    (i.table, omega arith, splits _ _ _ _ (omega arith) (ap (λ m. m.0.told_none) i.seat) (ap (λ m. m.0.drawn) i.seat))
