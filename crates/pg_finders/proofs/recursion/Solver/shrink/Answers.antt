use Rattle.pg_finders.proofs.Common.{◌≡◌, ◌-◌, refl, sym, ◌∙◌, ap, length, opponent, active_of, settled_of}
use Rattle.pg_finders.specs.private.recursion.GoingBack.{greatest_of}
use Rattle.pg_finders.proofs.recursion.LoopSteps.{last_popped}
use Rattle.pg_finders.proofs.recursion.ShrunkPartition.{begin_tops, begin_others}
use Rattle.pg_finders.proofs.recursion.ShrunkSolver.{fits_still, below, once, tops_are, aside_still, greatest_still, listed_below, shared, shrinks}
use Rattle.pg_finders.proofs.recursion.Solver.shrink.Goals as goal

pub greatest-greatest-requires : goal.greatest-greatest-requires
greatest-greatest-requires c =
    (fits_still c.requires c.in_ok-lose.ensures.loses c.deref.ensures.value).0

abbrev Lost : Type 0
Lost = goal.After-begin-arg-2-1

greatest_is : (c : Lost) → c.greatest-greatest.result.now ≡ greatest_of c.args.frame c.args.self.now.set_aside.items
greatest_is c = greatest_still c.requires c.in_ok-lose.ensures.loses c.greatest-greatest.ensures
    c.deref.ensures.value

pub begin-requires-clause-below : goal.begin-requires-clause-below
begin-requires-clause-below c = below c.requires (c.args.frame.tops_upto - c.args.frame.set_aside_from)
    (greatest_is c) refl

pub begin-requires-clause-once : goal.begin-requires-clause-once
begin-requires-clause-once c = once c.requires (c.args.frame.tops_upto - c.args.frame.set_aside_from)
    (greatest_is c)

pub begin-requires-clause-tops : goal.begin-requires-clause-tops
begin-requires-clause-tops c v t i = (let l = c.in_ok-lose.ensures.loses in
    rw c.tail-won.ensures (begin_tops (shared c.requires) l.reopened l.attracts l.partition v i))

pub begin-requires-clause-others : goal.begin-requires-clause-others
begin-requires-clause-others c v i n o = (let l = c.in_ok-lose.ensures.loses in
    begin_others (shared c.requires) l.reopened l.attracts l.partition v i
    (tops_are c.requires (greatest_is c) v ∙ n) (o ∙ ap (λ t. opponent t.player) c.tail-won.ensures))

pub aside-aside-requires : goal.aside-aside-requires
aside-aside-requires c =
    (fits_still c.requires c.in_ok-lose.ensures.loses c.deref-2.ensures.value).1

pub list_active-requires : goal.list_active-requires
list_active-requires c = below c.requires (c.args.frame.set_aside_upto - c.args.frame.set_aside_from)
    (aside_still c.requires c.in_ok-lose.ensures.loses c.aside-aside.ensures c.deref-2.ensures.value)
    c.in_ok-tops.ensures.partition.sizes.active

pub open-requires-clause-below : goal.open-requires-clause-below
open-requires-clause-below c = listed_below c.requires (active_of c.begin.new.self.subgame)
    c.in_ok-list_active.ensures c.clear.ensures.items
    (aside_still c.requires c.in_ok-lose.ensures.loses c.aside-aside.ensures c.deref-2.ensures.value)

pub returns : goal.returns
returns c = (let l = c.in_ok-lose.ensures.loses in record {
  shrinks = shrinks c.requires (c.end-taken.ensures.player ∙ c.other.ensures)
      (c.end-taken.ensures.from ∙ ap (λ p. length (settled_of c.args.self.now.partition.settled p)) (sym c.end-taken.ensures.player)) l
      (rw c.tail-won.ensures at c.in_ok-tops.ensures.begins) c.in_ok-tops.ensures.partition
      (greatest_still c.requires l c.greatest-greatest.ensures c.deref.ensures.value)
      (rw c.tail-won.ensures at c.in_ok-open.ensures.opened) c.in_ok-list_active.ensures c.clear.ensures.items
      (aside_still c.requires l c.aside-aside.ensures c.deref-2.ensures.value)
      (rw c.tail-won.ensures at c.in_ok-open.ensures.none) c.in_ok-open.ensures.partition c.truncate.ensures.items
      (last_popped c.lose.new.self.frames c.requires.before c.args.frame (ap (λ fs. fs.items) l.kept.frames ∙ c.requires.last) c.pop.ensures.rest) refl refl;
})

pub open-requires-clause-taken : goal.open-requires-clause-taken
open-requires-clause-taken c = c.end-taken.ensures.player ∙ (c.other.ensures ∙ ap (λ t. opponent t.player) (sym c.tail-won.ensures))
