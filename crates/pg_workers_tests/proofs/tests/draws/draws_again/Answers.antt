use Rattle.std.proofs.Common.{◌≡◌, ◌∙◌, true, sym}
use Rattle.pg_workers.specs.Tickets.{HeldTicket, exhausted}
use Rattle.pg_workers_tests.proofs.tests.draws.draws_again.Goals as goal

exhausted_again : (t : HeldTicket) → t.told_none ≡ true → exhausted t ≡ t
exhausted_again t e = λ i. record { series = t.series; numbers = t.numbers; told_none = sym e i }

pub returns-clause-same : goal.returns-clause-same
returns-clause-same c =
    let none = rw (c.draw.ensures.sticky c.requires.told) at c.draw.ensures.none in
    none ∙ exhausted_again c.args.ticket.now c.requires.told
