use Rattle.pg_finders.proofs.Common.{◌≡◌, ◌<◌, length, slice_index, sym, ◌∙◌, subst, arith, below_more, priority_of, members, EdgeBelow}
use Rattle.std.proofs.lemmas.List.{get_or_read}
use Rattle.pg_game.proofs.Masks.{none_mask}
use Rattle.pg_finders.proofs.solitaire.BackwardSearch.{leading_none, queue_one, all_seen, walk_taken}
use Rattle.pg_finders.proofs.solitaire.lead_to.Goals.{else-queue-test, then-queue-test+then-at-len}
use Rattle.pg_finders.proofs.solitaire.lead_to.Goals as goal

pub queue-init : goal.queue-init
queue-init c =
    let g = c.args.view.now.game.now in
    let n = c.len-n.result in
    rw (c.in_ok-empty.ensures, c.in_ok-push.ensures.items, c.new-queue.ensures.items) record {
      state = leading_none g (members c.args.view.now.mask.now) (priority_of g c.args.goal) c.args.goal n c.in_ok-vec.field-0.items c.len-n.ensures.number
          (omega (arith, c.in_ok-vec.ensures.len, c.len-n.ensures.number));
      queue = queue_one g c.args.goal _ c.requires.goal (none_mask n);
      done = λ i l. absurd (omega (arith, l));
      within = omega arith;
    }

pub queue-preserved : goal.queue-preserved
queue-preserved c =
    let g = c.args.view.now.game.now in
    let U = members c.args.view.now.mask.now in
    let top = priority_of g c.args.goal in
    let h = c.in_ok-reach_back.ensures in
    let q = c.queue.queue.items in
    let l : c.queue.at < length q = omega arith in
    let e : c.index-to.result.now ≡ slice_index q c.queue.at = get_or_read q c.queue.at _ l c.index-to.ensures 0 in
    record {
      state = h.state;
      queue = h.queue;
      done = below_more _ _
          (λ i li v m. h.follows.grows v (c.queue.invariant.done i li v (subst (λ x. EdgeBelow g U top v x) (h.follows.prefix i (omega arith)) m)))
          (λ v m. h.seen v (subst (λ x. EdgeBelow g U top v x) (h.follows.prefix c.queue.at l ∙ sym e) m));
      within = omega (arith, h.follows.longer);
    }

pub returns-clause-all : goal.returns-clause-all
returns-clause-all c =
    let g = c.args.view.now.game.now in
    let U = members c.args.view.now.mask.now in
    let top = priority_of g c.args.goal in
    walk_taken g U top c.args.goal (members c.queue.lead.taken)
    (all_seen g c.args.goal U top c.queue.lead.taken c.queue.queue.items c.queue.at
    (elim c.queue-test.branch [ else-queue-test w ↦ omega arith | then-queue-test+then-at-len w ↦ omega arith ])
    c.queue.invariant.queue c.queue.invariant.done)
