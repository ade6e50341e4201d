use Rattle.pg_finders.proofs.Common.{rules, arith}
use Rattle.pg_finders.proofs.small.PartialClaims.{next_partial, agrees_good}
use Rattle.pg_finders.proofs.small.WayBack.{closes_none}
use Rattle.pg_finders.proofs.small.rows.DominionSearch.stays_good.Goals as goal

pub returns-then-not-closes-clause-next : goal.returns-then-not-closes-clause-next
returns-then-not-closes-clause-next c = λ _. next_partial c.requires.state c.requires.at c.requires.closed
    (search (rules, closes_none, c.requires.at, c.closes.ensures.none, c.requires.state.good))

pub returns-else-not-closes-clause-next : goal.returns-else-not-closes-clause-next
returns-else-not-closes-clause-next c = λ good. next_partial c.requires.state c.requires.at c.requires.closed (c.is_good.ensures.good good)

pub returns-else-not-closes-clause-none : goal.returns-else-not-closes-clause-none
returns-else-not-closes-clause-none c = λ bad claim small a. c.is_good.ensures.bad bad (agrees_good small a (omega (arith, c.requires.at)))
