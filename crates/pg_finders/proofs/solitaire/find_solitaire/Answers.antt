use Rattle.pg_finders.proofs.Common.{Even, Odd, members}
use Rattle.pg_finders.proofs.solitaire.ForcedPlayer.{not_solitaire}
use Rattle.pg_finders.proofs.solitaire.find_solitaire.Goals as goal

pub returns-then-has_one_successor : goal.returns-then-has_one_successor
returns-then-has_one_successor c =
    rw (← c.view-view.ensures.graph, ← c.view-view.ensures.mask)
    ((c.is_empty.ensures.not_empty c.if-is_empty.false, (Even, c.has_one_successor.ensures.0 c.if-has_one_successor.true)), c.in_ok-solve.ensures)

pub invariant_of-even : goal.invariant_of-even
invariant_of-even c = record { one = c.has_one_successor.ensures.0 c.if-has_one_successor.true }

pub invariant_of-odd : goal.invariant_of-odd
invariant_of-odd c = record { one = c.has_one_successor-2.ensures.0 c.if-has_one_successor-2.true }

pub returns-then-has_one_successor-2 : goal.returns-then-has_one_successor-2
returns-then-has_one_successor-2 c =
    rw (← c.view-view.ensures.graph, ← c.view-view.ensures.mask)
    ((c.is_empty.ensures.not_empty c.if-is_empty.false, (Odd, c.has_one_successor-2.ensures.0 c.if-has_one_successor-2.true)), c.in_ok-solve-2.ensures)

pub returns : goal.returns
returns c =
    rw (← c.view-view.ensures.graph, ← c.view-view.ensures.mask) (not_solitaire c.view-view.result.game.now (members c.view-view.result.mask.now)
    (λ h. (let y = c.has_one_successor.ensures.1 h in let n = c.if-has_one_successor.false in cc (y, n)))
    (λ h. (let y = c.has_one_successor-2.ensures.1 h in let n = c.if-has_one_successor-2.false in cc (y, n))))
