-- Jobs and tickets by their private fields (private).
use Rattle.std.specs.Prelude.{◌≡◌, ◌≤◌, ◌<◌, [], All, if◌then◌else◌}
use Rattle.std.specs.Vec.{vec_capacity}
use Rattle.pg_workers.specs.private.Drawing.{drawer}
use Rattle.pg_workers.specs.declared.jobs.Ticket.TheInside as ticket
use Rattle.pg_workers.specs.declared.jobs.Jobs.TheInside as jobs

-- the seat's view is that of the ticket; the numbers are of jobs, and there is capacity for all
pub record IsTicket (t : ticket.Inside) : Type 0 where
  pub seat : t.seat.me ≡ (drawer t.seat.me.0.total 1 (if t.told_none then 1 else 0) t.numbers.items, [])
  pub below : All (λ j. j < t.seat.me.0.total) t.numbers.items
  pub spare : t.seat.me.0.total ≤ vec_capacity t.numbers

-- the table is of these jobs and has one word, and there is capacity for the tickets' drawn numbers
pub record HasTicketCapacity (j : jobs.Inside) : Type 0 where
  pub key : j.table.shared.key ≡ record { total = j.total; seats = j.seats }
  pub words : j.table.shared.table_id.words ≡ 1
  pub slots : j.table.shared.table_id.slots ≡ 0
  pub empty : j.spare.items ≡ []
  pub spare : j.seats ≤ vec_capacity j.spare
  pub few : j.total ≤ 4096
  pub some_seat : 1 ≤ j.seats
  pub few_seats : j.seats ≤ 64
