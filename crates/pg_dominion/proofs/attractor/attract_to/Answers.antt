use Rattle.pg_dominion.proofs.Common.{◌≡◌, ℕ, slice_index, sym, ◌∙◌, subst, arith, below_more, rules, get_or_default, Contains-get_or, VertexSet, In, union}
use Rattle.pg_dominion.proofs.Common.{listed_by, IsTakenOrOpen}
use Rattle.pg_dominion.proofs.ListedVertices.{takes_none, takes_then, takes_within, takes_set}
use Rattle.pg_dominion.proofs.AttractionSteps.{IsSettled-before, IsSettled-later}
use Rattle.pg_dominion.proofs.attractor.attract_to.Goals as goal

pub loop-from-init : goal.loop-from-init
loop-from-init g c = search (rules, c.requires.ready, g.met.A.AttractorState.grown_same, takes_none, g.A.AttractorState.vertex_of, g.A.AttractorState.free)

pub take_if_attracted-requires-clause-edge : goal.take_if_attracted-requires-clause-edge
take_if_attracted-requires-clause-edge g c =
    (c.requires.row.exact (slice_index c.args.row.now c.loop-from.from-index)).0
    (Contains-get_or c.args.row.now c.loop-from.from-index 0 c.loop-from-test.true)

pub take_if_attracted-requires-clause-taken : goal.take_if_attracted-requires-clause-taken
take_if_attracted-requires-clause-taken g c = search (rules, takes_within, c.loop-from.invariant.takes, c.requires.taken)

pub loop-from-preserved : goal.loop-from-preserved
loop-from-preserved g c =
    let a = g.A.AttractorState in
    let h = c.in_ok-take_if_attracted.ensures in
    let old = c.loop-from.invariant in
    let game = c.args.game.now in
    let p = c.args.player in
    let f = a.vertex_of in
    let xs = c.args.list.now.items in
    let ys = c.loop-from.list.items in
    let zs = c.take_if_attracted.new.list.items in
    let F = a.free c.args.state.now in
    let F1 = a.free c.loop-from.state in
    let F2 = a.free c.take_if_attracted.new.state in
    let U = union F (listed_by f xs) in
    let from = slice_index c.args.row.now c.loop-from.from-index in
    let here = subst (λ (X : VertexSet). In X from → IsTakenOrOpen game p X (listed_by f ys) (listed_by f zs) from)
    (takes_set f F F1 xs ys old.takes) h.settled in
    record {
      ready = h.ready;
      grown = g.met.A.AttractorState.grown_then game p c.args.state.now c.loop-from.state c.take_if_attracted.new.state xs ys zs old.grown h.grown;
      takes = takes_then f F F1 F2 xs ys zs old.takes h.takes;
      settled = below_more _ _ (λ k l i. IsSettled-later game p U (listed_by f xs) (listed_by f ys) (listed_by f zs) _ (takes_within f F1 F2 ys zs h.takes)
          (old.settled k l i))
          (λ i. IsSettled-before game p U (listed_by f xs) (listed_by f ys) (listed_by f zs) _ (takes_within f F F1 xs ys old.takes) (here i));
    }

pub returns-clause-settled : goal.returns-clause-settled
returns-clause-settled g c = λ u i e.
    let a = g.A.AttractorState in
    let us = c.args.row.now in
    let m = (c.requires.row.exact u).1 e in
    let q : slice_index us m.0 ≡ u = get_or_default us m.0 0 u m.1 ∙ m.2 in
    let U = union (a.free c.args.state.now) (listed_by a.vertex_of c.args.list.now.items) in
    subst (λ (x : ℕ). IsTakenOrOpen c.args.game.now c.args.player U (listed_by a.vertex_of c.args.list.now.items)
    (listed_by a.vertex_of c.loop-from.list.items) x) q
    (c.loop-from.invariant.settled m.0 (omega (arith, m.1, c.loop-from-test.false)) (subst (λ (x : ℕ). In U x) (sym q) i))
