use Rattle.pg_finders.proofs.Common.{Even, Odd, In, listed, refl, subst, settled_of}
use Rattle.pg_finders.proofs.recursion.PlacedLists.{placed_remove}
use Rattle.pg_finders.proofs.recursion.settled.Settled.remove.Goals as goal

pub returns-in-Even-clause-placed : goal.returns-in-Even-clause-placed
returns-in-Even-clause-placed c = λ n h. placed_remove Even c.args.v h
    (subst (λ p. In (listed (settled_of c.args.self.now p)) c.args.v) c.in-Even.is c.requires.listed) c.remove_from.ensures.without refl
    c.remove_from.ensures.len c.remove_from.ensures.places c.remove_from.ensures.others

pub returns-in-Odd-clause-placed : goal.returns-in-Odd-clause-placed
returns-in-Odd-clause-placed c = λ n h. placed_remove Odd c.args.v h
    (subst (λ p. In (listed (settled_of c.args.self.now p)) c.args.v) c.in-Odd.is c.requires.listed) c.remove_from-in-Odd.ensures.without refl
    c.remove_from-in-Odd.ensures.len c.remove_from-in-Odd.ensures.places c.remove_from-in-Odd.ensures.others
