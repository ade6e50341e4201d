use Rattle.pg_dominion.proofs.Common.{◌≤◌, length, take, vec_capacity, union, listed_by, Takes, AttractsNoFurther}
use Rattle.pg_dominion.proofs.attractor.attract_from.Given as goal

abbrev pub invariant-list : goal.invariant-list
invariant-list g l = record {
  ready : g.A.AttractorState.ready l.game l.state l.list.items (vec_capacity l.list);
  grown : g.A.AttractorState.grown l.game l.player l.fn.state l.fn.list.items l.state l.list.items;
  takes : Takes g.A.AttractorState.vertex_of (g.A.AttractorState.free l.fn.state) l.fn.list.items (g.A.AttractorState.free l.state) l.list.items;
  done : AttractsNoFurther l.game l.player (union (g.A.AttractorState.free l.fn.state) (listed_by g.A.AttractorState.vertex_of l.fn.list.items))
      (listed_by g.A.AttractorState.vertex_of (take l.next l.list.items)) (listed_by g.A.AttractorState.vertex_of l.list.items);
  within : l.next ≤ length l.list.items;
}
