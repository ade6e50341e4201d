use Rattle.pg_dominion.proofs.Common.{◌≡◌, ◌<◌, ℕ, length, slice_index, sym, ◌∙◌, ap, subst, arith, below_more, length-append, get_or_append_left, get_or_read}
use Rattle.pg_dominion.proofs.Common.{In, named, LeadsToListed}
use Rattle.pg_dominion.proofs.claim.NoWayBack.{LeadsToListed-longer, none_returns}
use Rattle.pg_dominion.proofs.claim.never_returns.Goals as goal

pub returns-then-next-len : goal.returns-then-next-len
returns-then-next-len c = λ _.
    let claim = c.args.claim.now in
    none_returns c.args.game.now claim.player claim.rows c.args.start c.list.list.items c.list.next
    (omega (arith, c.if-next-len.true)) c.list.invariant.first c.list.invariant.rest

pub expand-requires-in-list-clause-vertex : goal.expand-requires-in-list-clause-vertex
expand-requires-in-list-clause-vertex c =
    let q = c.list.list.items in
    let l : c.list.next < length q = omega arith in
    let e : c.index-v.result.now ≡ slice_index q c.list.next = get_or_read q c.list.next _ l c.index-v.ensures 0 in
    subst (λ (x : ℕ). In (named c.args.claim.now.rows) x) (sym e) (c.list.invariant.all c.list.next l)

pub list-preserved : goal.list-preserved
list-preserved c =
    let claim = c.args.claim.now in
    let g = c.args.game.now in
    let h = c.in_ok-expand-2.ensures in
    let q = c.list.list.items in
    let q' = c.expand-in-list.new.list.items in
    let l : c.list.next < length q = omega arith in
    let e : c.index-v.result.now ≡ slice_index q c.list.next = get_or_read q c.list.next _ l c.index-v.ensures 0 in
    let more = h.longer.0 in
    let later : (x : ℕ) → LeadsToListed g claim.player claim.rows c.args.start q x → LeadsToListed g claim.player claim.rows c.args.start q' x
    = λ x s. rw h.longer.1 (LeadsToListed-longer g claim.player claim.rows c.args.start q more x s) in
    let same : (i : ℕ) → i < length q → slice_index q' i ≡ slice_index q i = λ i li. rw h.longer.1 (get_or_append_left q more 0 i li) in
    record {
      all = h.named;
      first = later c.args.start c.list.invariant.first;
      rest = below_more _ _
          (λ i li. subst (λ (x : ℕ). LeadsToListed g claim.player claim.rows c.args.start q' x) (sym (same i (omega (arith, c.list.invariant.within))))
          (later (slice_index q i) (c.list.invariant.rest i li)))
          (subst (λ (x : ℕ). LeadsToListed g claim.player claim.rows c.args.start q' x) (e ∙ sym (same c.list.next l)) (h.stays c.if-not-branch-2.false));
      within = omega (arith, l, ap length h.longer.1, length-append q more);
    }
