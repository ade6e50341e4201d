use Rattle.pg_finders.proofs.Common.{Even, Odd, refl}
use Rattle.pg_finders.proofs.recursion.PlacedLists.{few_placed, placed_append}
use Rattle.pg_finders.proofs.recursion.settled.Settled.add_all.Goals as goal

pub append-requires : goal.append-requires
append-requires c = (let h = c.requires.placed in record {
  below = rw h.1.size h.2;
  few = few_placed c.args.vertices.now h.1 h.2 c.requires.once c.requires.fresh Even;
  once = c.requires.once;
  places = h.1.table Even;
  fresh = c.requires.fresh Even;
})

pub append-requires-in-Odd : goal.append-requires-in-Odd
append-requires-in-Odd c = (let h = c.requires.placed in record {
  below = rw h.1.size h.2;
  few = few_placed c.args.vertices.now h.1 h.2 c.requires.once c.requires.fresh Odd;
  once = c.requires.once;
  places = h.1.table Odd;
  fresh = c.requires.fresh Odd;
})

pub returns-in_ok-append-in-Even-clause-placed : goal.returns-in_ok-append-in-Even-clause-placed
returns-in_ok-append-in-Even-clause-placed c = λ n h b. placed_append Even c.args.vertices.now h c.in_ok-append-in-Even.ensures.items refl c.append.ensures.len
    c.in_ok-append-in-Even.ensures.places c.append.ensures.others b c.requires.fresh

pub returns-in_ok-append-in-Odd-clause-placed : goal.returns-in_ok-append-in-Odd-clause-placed
returns-in_ok-append-in-Odd-clause-placed c = λ n h b. placed_append Odd c.args.vertices.now h c.in_ok-append-in-Odd.ensures.items refl c.append-in-Odd.ensures.len
    c.in_ok-append-in-Odd.ensures.places c.append-in-Odd.ensures.others b c.requires.fresh
