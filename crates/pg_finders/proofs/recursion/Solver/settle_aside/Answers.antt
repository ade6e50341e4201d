use Rattle.pg_finders.proofs.Common.{◌≡◌, ◌-◌, ◌++◌, ◌∙◌, length, ap, refl, settled_of}
use Rattle.pg_finders.specs.declared.recursion.Solver.{Solver}
use Rattle.pg_finders.specs.private.recursion.GoingBack.{aside_of}
use Rattle.pg_finders.proofs.recursion.FinishedSubgame.{SettlesAside, finished, finished_fewer}
use Rattle.pg_finders.proofs.recursion.LoopSteps.{last_popped}
use Rattle.pg_finders.proofs.recursion.ShrunkSolver.{fits, aside_is, below, once, fresh}
use Rattle.pg_finders.proofs.recursion.Solver.settle_aside.Goals as goal

pub aside-aside-requires : goal.aside-aside-requires
aside-aside-requires c = (fits c.requires.end c.deref.ensures.value).1

abbrev Aside : Type 0
Aside = goal.After-add_all-arg-1

is : (c : Aside) → c.aside-aside.result.now ≡ aside_of c.args.frame c.args.self.now.set_aside.items
is c = c.aside-aside.ensures ∙ ap (aside_of c.args.frame) c.deref.ensures.value

pub add_all-requires-clause-placed : goal.add_all-requires-clause-placed
add_all-requires-clause-placed c =
    (length c.args.view.now.game.now, c.requires.end.running.placed, below c.requires.end (c.args.frame.set_aside_upto - c.args.frame.set_aside_from) (is c) refl)

pub add_all-requires-clause-once : goal.add_all-requires-clause-once
add_all-requires-clause-once c = once c.requires.end (c.args.frame.set_aside_upto - c.args.frame.set_aside_from) (is c)

pub add_all-requires-clause-fresh : goal.add_all-requires-clause-fresh
add_all-requires-clause-fresh c = fresh c.requires.end (is c)

abbrev after : goal.After-pop → Solver
after c = record c.args.self.now {
  partition = record c.args.self.now.partition { settled = c.add_all.new.self };
  set_aside = c.truncate.new.self;
  frames = c.pop.new.self;
}

settles : (c : goal.After-pop) → SettlesAside c.args.view.now.game.now c.args.self.now (after c) c.args.frame
settles c =
    let is_aside = c.aside-aside.ensures ∙ ap (aside_of c.args.frame) c.deref.ensures.value in
    record {
      subgame = refl;
      order = refl;
      size = refl;
      frames = last_popped c.args.self.now.frames c.requires.end.before c.args.frame c.requires.end.last c.pop.ensures.rest;
      set_aside = c.truncate.ensures.items;
      own = c.in_ok-add_all.ensures.own ∙ ap (λ xs. settled_of c.args.self.now.partition.settled c.args.frame.player ++ xs) (is_aside ∙ aside_is c.requires.end);
      other = c.in_ok-add_all.ensures.other;
      placed = c.in_ok-add_all.ensures.placed (length c.args.view.now.game.now) c.requires.end.running.placed
          (below c.requires.end (c.args.frame.set_aside_upto - c.args.frame.set_aside_from) is_aside refl);
    }

pub returns-clause-running : goal.returns-clause-running
returns-clause-running c = finished c.requires.end c.requires.all (settles c)

pub returns-clause-fewer : goal.returns-clause-fewer
returns-clause-fewer c = finished_fewer c.requires.end c.requires.all (settles c)
