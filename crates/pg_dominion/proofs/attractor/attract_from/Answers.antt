use Rattle.pg_dominion.proofs.Common.{ℕ, ◌<◌, length, sym, subst, arith, rules, HasEdge, VertexSet, In, union, listed_by, IsTakenOrOpen}
use Rattle.pg_game.specs.VertexSet.{all_vertices}
use Rattle.pg_dominion.proofs.ListedVertices.{takes_none, takes_then, takes_set, takes_longer, takes_below, next_below, next_listed}
use Rattle.pg_dominion.proofs.ListedVertices.{next_reached, all_done}
use Rattle.pg_dominion.proofs.attractor.attract_from.Goals as goal

pub list-init : goal.list-init
list-init g c = search (rules, c.requires.ready, g.met.A.AttractorState.grown_same, takes_none, c.requires.done, c.requires.place)

pub predecessors-row-requires : goal.predecessors-row-requires
predecessors-row-requires g c =
    let item = c.index.result.now in
    subst (λ (v : ℕ). v < length c.args.game.now) (sym c.vertex-to.ensures)
    (next_below g.A.AttractorState.vertex_of c.list.list.items c.list.next item (omega arith) item c.index.ensures c.args.game.now
    (takes_below g.A.AttractorState.vertex_of _ _ _ _ c.list.invariant.takes (all_vertices c.args.game.now) c.requires.below))

pub attract_to-requires-clause-taken : goal.attract_to-requires-clause-taken
attract_to-requires-clause-taken g c =
    let item = c.index.result.now in
    rw c.vertex-to.ensures (next_listed g.A.AttractorState.vertex_of c.list.list.items c.list.next item (omega arith) item c.index.ensures)

pub list-preserved : goal.list-preserved
list-preserved g c =
    let a = g.A.AttractorState in
    let new = c.in_ok-attract_to.ensures in
    let old = c.list.invariant in
    let game = c.args.game.now in
    let f = a.vertex_of in
    let item = c.index.result.now in
    let xs = c.args.list.now.items in
    let ys = c.list.list.items in
    let zs = c.attract_to.new.list.items in
    let F = a.free c.args.state.now in
    let F1 = a.free c.list.state in
    let F2 = a.free c.attract_to.new.state in
    let below : c.list.next < length ys = omega arith in
    let v = c.vertex-to.result in
    let settled = subst (λ (X : VertexSet). (u : ℕ) → In X u → HasEdge game u v → IsTakenOrOpen game c.args.player X (listed_by f ys) (listed_by f zs) u)
    (takes_set f F F1 xs ys old.takes) new.settled in
    record {
      ready = new.ready;
      grown = g.met.A.AttractorState.grown_then game c.args.player c.args.state.now c.list.state c.attract_to.new.state xs ys zs old.grown new.grown;
      takes = takes_then f F F1 F2 xs ys zs old.takes new.takes;
      done = next_reached f ys c.list.next item below item c.index.ensures game c.args.player (union F (listed_by f xs)) F1 F2 zs new.takes v
          c.vertex-to.ensures settled old.done;
      within = (let l = takes_longer f F1 F2 ys zs new.takes in omega (arith, l, below));
    }

pub returns-after-list-clause-done : goal.returns-after-list-clause-done
returns-after-list-clause-done g c = search (rules, all_done, c.list.invariant.done)

pub returns-then-next-len-clause-done : goal.returns-then-next-len-clause-done
returns-then-next-len-clause-done g c = search (rules, all_done, c.list.invariant.done)
