use Rattle.pg_dominion.proofs.Common.{arith, below_more, rules}
use Rattle.pg_dominion.proofs.SearchSteps.{IsSpread-later, GoesOn-then}
use Rattle.pg_dominion.proofs.cycles.Labels.finds_back.Goals as goal

pub queue-init : goal.queue-init
queue-init c = search (rules, c.requires.least, c.requires.state)

pub queue-preserved : goal.queue-preserved
queue-preserved c =
    let h = c.in_ok-spread.ensures in
    let old = c.queue.search in
    let new = c.spread.new.search in
    let k = c.args.self.now.kept.now in
    let L = c.args.self.now.levels.items in
    let G = c.args.self.now.groups.items in
    record {
      least = h.state.least;
      state = h.state.state;
      later = GoesOn-then _ old.queue.items new.queue.items _ old.first_repeated new.first_repeated c.queue.invariant.later h.later;
      within = omega (arith, h.later.longer);
      spread = below_more _ _
          (λ i l. IsSpread-later k L G c.args.top c.args.own old.places.items old.queue.items new.places.items new.queue.items old.first_repeated
          new.first_repeated i
          (omega arith) h.later h.state.state (c.queue.invariant.spread i l))
          (h.spread c.if-branch.false);
    }

pub returns-then-next-len-clause-spread : goal.returns-then-next-len-clause-spread
returns-then-next-len-clause-spread c = λ _ i l. c.queue.invariant.spread i (omega (arith, l, c.if-next-len.true, c.len.ensures))

pub returns-then-branch-clause-first : goal.returns-then-branch-clause-first
returns-then-branch-clause-first c =
    search (rules, c.queue.invariant, c.in_ok-spread.ensures.later.front, c.queue.invariant.state.some, c.queue.invariant.later.front, c.requires.state.some)

pub returns-then-branch-clause-back : goal.returns-then-branch-clause-back
returns-then-branch-clause-back c = search (rules, c.queue.invariant.later.front, c.requires.state.some, c.in_ok-spread.ensures.back, c.if-branch.true)

pub returns-after-queue-clause-first : goal.returns-after-queue-clause-first
returns-after-queue-clause-first c = c.queue.invariant.later.front 0 c.requires.state.some

pub returns-after-queue-clause-spread : goal.returns-after-queue-clause-spread
returns-after-queue-clause-spread c = λ _ i l. c.queue.invariant.spread i (omega (arith, l, c.queue-test.false))

pub returns-then-next-len-clause-first : goal.returns-then-next-len-clause-first
returns-then-next-len-clause-first c = c.queue.invariant.later.front 0 c.requires.state.some
