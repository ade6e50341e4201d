use Rattle.pg_finders.proofs.inside.Inside.view.Goals as goal

pub invariant_of-result : goal.invariant_of-result
invariant_of-result c = record {
  size = c.self.invariant.size;
  no_dead_end = λ v d. (let s = c.self.invariant.subgame.successor v d.0 in d.1 s.0 s.1 s.2);
}
