use Rattle.pg_finders.proofs.Common.{◌≡◌, ◌<◌, ◌≤◌, ◌⊎◌, inl, inr, false, length, slice_index, sym, ◌∙◌, subst, arith, below_more, get_or_default, rules}
use Rattle.pg_finders.proofs.Common.{Contains-get_or, priority_of, In, members, EdgeBelow, get_or_append_left, length-append}
use Rattle.pg_finders.proofs.solitaire.BackwardSearch.{leading_push, queue_push, still_set, now_set}
use Rattle.pg_finders.proofs.solitaire.reach_back.Goals as goal

pub edges-preserved : goal.edges-preserved
edges-preserved c =
    let g = c.args.view.now.game.now in
    let U = members c.args.view.now.mask.now in
    let goal_at = c.args.goal in
    let to = c.args.to in
    let us = c.predecessors-from-items.result.now in
    let k = c.edges.from-index in
    let v = slice_index us k in
    let taken = c.edges.lead.taken in
    let old = c.edges.invariant in
    let l : v < length g = c.predecessors-from-items.ensures.below k c.edges-test.true in
    let lt : v < length taken = omega (arith, old.state.size) in
    let i : In U v = cc (c.has.ensures, c.if-not-has.false) in
    let new : members taken v ≡ false = cc (c.has-else-not-has.ensures, c.if-has.false) in
    let low : priority_of g v ≤ priority_of g goal_at = omega (arith, c.priority.ensures, c.priority-top.ensures, c.if-priority-top.false) in
    let e : EdgeBelow g U (priority_of g goal_at) v to = ((c.predecessors-from-items.ensures.exact v).0 (Contains-get_or us k 0 c.edges-test.true), i, low) in
    let near : (to ≡ goal_at) ⊎ In (members taken) to = elim c.requires.to [ inl q ↦ inl q | inr j ↦ inr (old.follows.grows to j) ] in
    rw (c.insert.ensures, c.in_ok-push.ensures.items) record {
      state = leading_push g U (priority_of g goal_at) goal_at taken c.edges.lead.next.items v to l new e near old.state;
      queue = queue_push g goal_at taken c.edges.queue.items v l lt old.queue;
      follows = search (rules, still_set, old.follows.grows, old.follows.longer, length-append, get_or_append_left, old.follows.prefix);
      seen = below_more _ _ (λ j m a. still_set taken v (slice_index us j) lt (old.seen j m a)) (λ a. now_set taken v lt);
    }

pub returns-clause-seen : goal.returns-clause-seen
returns-clause-seen c = λ v e.
    let us = c.predecessors-from-items.result.now in
    let m = (c.predecessors-from-items.ensures.exact v).1 e.0 in
    let q : slice_index us m.0 ≡ v = get_or_default us m.0 0 v m.1 ∙ m.2 in
    subst (In (members c.edges.lead.taken)) q (c.edges.invariant.seen m.0 (omega (arith, m.1, c.edges-test.false))
    (subst (λ x. EdgeBelow c.args.view.now.game.now (members c.args.view.now.mask.now) (priority_of c.args.view.now.game.now c.args.goal) x c.args.to) (sym q) e))
