-- Jobs and tickets by their private fields.
use Rattle.pg_workers.specs.Tickets.{JobNumbers, HeldTicket}
use Rattle.pg_workers.specs.declared.jobs.Ticket.TheInside as ticket
use Rattle.pg_workers.specs.declared.jobs.Jobs.TheInside as jobs

abbrev pub held_of : ticket.Inside → HeldTicket
held_of t = record { series = record { table = t.seat.table_id; total = t.seat.me.0.total }; numbers = t.numbers.items; told_none = t.told_none }

abbrev pub numbers_of : jobs.Inside → JobNumbers
numbers_of j = record { series = record { table = j.table.shared.table_id; total = j.total }; seats = j.seats }
