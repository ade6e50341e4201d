use Rattle.pg_finders.proofs.Common.{◌≡◌, length, arith, ap, sym, ◌∙◌, inr, settled_of}
use Rattle.pg_finders.proofs.recursion.WonBack.{no_rest, settled_apart, at_most_listed, won_back, wins_nothing}
use Rattle.pg_finders.proofs.recursion.Solver.win_back.Goals as goal

abbrev Start : Type 0
Start = goal.After-attract-arg-then-none-won-1

from : (c : Start) → c.end-none.result.from ≡ length (settled_of c.args.self.now.partition.settled c.end-none.result.player)
from c = c.end-none.ensures.from ∙ ap (λ p. length (settled_of c.args.self.now.partition.settled p)) (sym c.end-none.ensures.player)

pub attract-requires-clause-below : goal.attract-requires-clause-below
attract-requires-clause-below c = rw c.deref.ensures.value c.requires.below

pub attract-requires-clause-target : goal.attract-requires-clause-target
attract-requires-clause-target c = record {
  side = inr (no_rest c.end-none.result c.requires.partition (from c));
  apart = settled_apart c.end-none.result c.requires.partition (from c) c.tail-won.result;
}

pub attract-requires-clause-from : goal.attract-requires-clause-from
attract-requires-clause-from c = rw c.tail-won.ensures c.requires.counts

pub attract-requires-clause-at_most : goal.attract-requires-clause-at_most
attract-requires-clause-at_most c =
    at_most_listed c.end-none.result c.requires.partition (from c) c.args.view.now.game.now _ _ c.deref.result.now (rw c.deref.ensures.value c.requires.listed)

from_after : (c : goal.In_ok-attract) → c.end-none.result.from ≡ length (settled_of c.args.self.now.partition.settled c.end-none.result.player)
from_after c = c.end-none.ensures.from ∙ ap (λ p. length (settled_of c.args.self.now.partition.settled p)) (sym c.end-none.ensures.player)

pub returns-in_ok-attract-clause-wins : goal.returns-in_ok-attract-clause-wins
returns-in_ok-attract-clause-wins c = rw (← c.tail-won.ensures)
    (won_back c.end-none.result c.requires.partition (from_after c) (ap (λ t. t.player) c.tail-won.ensures ∙ sym c.end-none.ensures.player) c.in_ok-attract.ensures.attracts)

pub returns-else-none-won-clause-wins : goal.returns-else-none-won-clause-wins
returns-else-none-won-clause-wins c = wins_nothing c.args.view.now.game.now _ c.args.self.now.partition
    (omega (arith, c.end-none.ensures.from, ap (λ t. t.from) c.tail-won.ensures, c.if-none-won.false))
