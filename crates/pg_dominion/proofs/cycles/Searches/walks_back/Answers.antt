use Rattle.pg_dominion.proofs.Common.{◌≡◌, ℕ, ◌+◌, length, slice_index, refl, sym, ◌∙◌, subst, arith, AreNoted, label_lists, reached_lists}
use Rattle.pg_dominion.proofs.cycles.NoWayBack.{searching_first, labelled_more, none_reached}
use Rattle.pg_dominion.proofs.cycles.Searches.walks_back.Goals as goal

pub finds_back-requires : goal.finds_back-requires
finds_back-requires c =
    let l = c.args.self.now.labels in
    record {
      least = omega arith;
      state = rw (c.in_ok-push.ensures.items, c.clear.ensures.items)
          (searching_first l.kept.now l.levels.items l.groups.items c.priority-top.result c.group_above-own.result c.args.self.now.search.places.items
          c.args.start c.requires c.args.self.now.size c.group_above-own.ensures.above);
    }

pub invariant_of-labels : goal.invariant_of-labels
invariant_of-labels c =
    let h = c.in_ok-finds_back.ensures in
    let s = c.finds_back.new.search in
    let l = c.args.self.now.labels in
    let L' = c.note.new.levels.items in
    let G' = c.note.new.groups.items in
    let e : slice_index s.queue.items 0 ≡ c.args.start = h.first ∙ (rw (c.in_ok-push.ensures.items, c.clear.ensures.items) refl) in
    let top = c.priority-top.result in
    record {
      shown = labelled_more l.kept.now l.levels.items l.groups.items top c.group_above-own.result s.first_repeated s.places.items s.queue.items l.shown h.state.state
          (h.spread c.if-branch.false)
          c.if-own-eq0.true h.state.least L' G'
          (subst (λ (x : ℕ). AreNoted (label_lists l.levels.items l.groups.items) (reached_lists s.places.items s.queue.items s.first_repeated)
          (top + 1) x (length s.queue.items) (label_lists L' G'))
          (sym e)
          c.note.ensures);
    }

pub returns-then-own-eq0-clause-back : goal.returns-then-own-eq0-clause-back
returns-then-own-eq0-clause-back c =
    let h = c.in_ok-finds_back.ensures in
    let s = c.finds_back.new.search in
    let l = c.args.self.now.labels in
    let none = none_reached l.kept.now l.levels.items l.groups.items c.priority-top.result c.group_above-own.result s.first_repeated s.places.items s.queue.items
    l.shown h.state.state (h.spread c.if-branch.false) h.state.least c.args.start
    (h.first ∙ (rw (c.in_ok-push.ensures.items, c.clear.ensures.items) refl)) c.priority-top.ensures in
    (λ t. absurd (cc t), λ r. absurd (none r))

pub returns-else-own-eq0-clause-back : goal.returns-else-own-eq0-clause-back
returns-else-own-eq0-clause-back c =
    let h = c.in_ok-finds_back.ensures in
    let s = c.finds_back.new.search in
    let l = c.args.self.now.labels in
    let none = none_reached l.kept.now l.levels.items l.groups.items c.priority-top.result c.group_above-own.result s.first_repeated s.places.items s.queue.items
    l.shown h.state.state (h.spread c.if-branch.false) h.state.least c.args.start
    (h.first ∙ (rw (c.in_ok-push.ensures.items, c.clear.ensures.items) refl)) c.priority-top.ensures in
    (λ t. absurd (cc t), λ r. absurd (none r))

pub note-requires-clause-below : goal.note-requires-clause-below
note-requires-clause-below c = λ i l. omega (arith, c.in_ok-finds_back.ensures.state.state.below i l, c.in_ok-finds_back.ensures.state.state.size)

pub note-requires-clause-placed : goal.note-requires-clause-placed
note-requires-clause-placed c = c.in_ok-finds_back.ensures.state.state.placed
