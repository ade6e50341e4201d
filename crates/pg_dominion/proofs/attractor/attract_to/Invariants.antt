use Rattle.pg_dominion.proofs.Common.{ℕ, ◌<◌, slice_index, vec_capacity, In, union, listed_by, Takes, IsTakenOrOpen}
use Rattle.pg_dominion.proofs.attractor.attract_to.Given as goal

abbrev pub invariant-loop-from : goal.invariant-loop-from
invariant-loop-from g l = record {
  ready : g.A.AttractorState.ready l.game l.state l.list.items (vec_capacity l.list);
  grown : g.A.AttractorState.grown l.game l.player l.fn.state l.fn.list.items l.state l.list.items;
  takes : Takes g.A.AttractorState.vertex_of (g.A.AttractorState.free l.fn.state) l.fn.list.items (g.A.AttractorState.free l.state) l.list.items;
  settled : (k : ℕ) → k < l.from-index
      → In (union (g.A.AttractorState.free l.fn.state) (listed_by g.A.AttractorState.vertex_of l.fn.list.items)) (slice_index l.row k)
      → IsTakenOrOpen l.game l.player (union (g.A.AttractorState.free l.fn.state) (listed_by g.A.AttractorState.vertex_of l.fn.list.items))
      (listed_by g.A.AttractorState.vertex_of l.fn.list.items) (listed_by g.A.AttractorState.vertex_of l.list.items) (slice_index l.row k);
}
