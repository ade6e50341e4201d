use Rattle.pg_finders.proofs.recursion.Recursion.begin.Goals as goal

pub invariant_of-view : goal.invariant_of-view
invariant_of-view c = rw c.deref.ensures record {
  size = c.requires.size;
  no_dead_end = λ v d. (let s = c.requires.subgame.successor v d.0 in d.1 s.0 s.1 s.2);
}
