use Rattle.pg_dominion.proofs.Common.{◌≡◌, ◌≢◌, true, inl, inr, refl, sym, ◌∙◌, rules, false_from_ne_true, or_left, vec_capacity, owner_of, listed_by}
use Rattle.std.proofs.lemmas.Result.{on_ok_weaker}
use Rattle.pg_dominion.proofs.ListedVertices.{on_ok_both, takes_one, last_listed}
use Rattle.pg_dominion.proofs.attractor.take_if_attracted.Goals as goal

pub returns-then-find_way_out-clause-settled : goal.returns-then-find_way_out-clause-settled
returns-then-find_way_out-clause-settled g c = λ i.
    let a = g.A.AttractorState in
    let o : owner_of c.args.game.now c.args.from ≢ c.args.player = search rules in
    let h = c.find_way_out.ensures.out c.if-find_way_out.true in
    let xs = c.args.list.now.items in
    inr (inr (
      o,
      (
        h.0,
        h.1,
        or_left (a.free c.args.state.now h.0) (listed_by a.vertex_of xs h.0) h.2,
        false_from_ne_true (listed_by a.vertex_of xs h.0)
            (λ t. (let f = g.met.A.AttractorState.apart c.args.game.now c.args.state.now xs (vec_capacity c.args.list.now) h.0 c.requires.ready t in
            let w = h.2 in
            cc (f, w))),
      ),
    ))

pub returns-clause-takes : goal.returns-clause-takes
returns-clause-takes g c =
    let a = g.A.AttractorState in
    let h = c.take-2.ensures in
    on_ok_weaker c.take-2.result
    (λ q. takes_one a.vertex_of (a.free c.args.state.now) (a.free c.find_way_out.new.self)
    (a.free c.take-2.new.self) c.args.list.now.items c.take-2.new.list.items c.args.from c.find_way_out.ensures.free (search rules) q.0 q.1)
    (on_ok_both _ _ c.take-2.result h.listed h.free)

pub take-requires-clause-leads : goal.take-requires-clause-leads
take-requires-clause-leads g c =
    let a = g.A.AttractorState in
    let xs = c.args.list.now.items in
    let o : owner_of c.args.game.now c.args.from ≡ c.args.player = search rules in
    let f : a.free c.args.state.now c.args.from ≡ true = sym c.is_free.ensures ∙ c.if-not-is_free.false in
    record {
      inside = or_left (a.free c.args.state.now c.args.from) (listed_by a.vertex_of xs c.args.from) f;
      fresh = false_from_ne_true (listed_by a.vertex_of xs c.args.from)
          (λ t. (let n = g.met.A.AttractorState.apart c.args.game.now c.args.state.now xs (vec_capacity c.args.list.now) c.args.from c.requires.ready t in
          cc (n, f)));
      own = λ _. (c.args.to, refl, c.requires.edge, c.requires.taken);
      forced = λ n. absurd (n o);
    }

pub returns-clause-settled : goal.returns-clause-settled
returns-clause-settled g c = on_ok_weaker c.take-2.result
    (λ q _. inl (last_listed g.A.AttractorState.vertex_of c.args.list.now.items c.take-2.new.list.items q.0 c.args.from q.1 q.2)) c.take-2.ensures.listed
