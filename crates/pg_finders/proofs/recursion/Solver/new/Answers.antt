use Rattle.pg_finders.proofs.Common.{◌≡◌, how_many, sym, ◌∙◌, ap, refl, subst, members, IsSubgame, IsOrder, arith, priority_count}
use Rattle.pg_finders.proofs.recursion.StepBounds.{work_start}
use Rattle.pg_finders.proofs.DeadEnds.{subgame_of}
use Rattle.pg_finders.proofs.recursion.LoopSteps.{open_levels_start}
use Rattle.pg_finders.proofs.recursion.Solver.new.Goals as goal

pub returns-clause-running : goal.returns-clause-running
returns-clause-running c =
    let e : c.new-4.result.subgame.active ≡ c.args.view.now.mask.now = ap (λ x. x.active) c.new-4.ensures.subgame ∙ c.in_ok-subgame.ensures.active in
    record {
      inside_length = c.args.view.now.size;
      whole = c.count-n.ensures;
      sizes = rw c.new-4.ensures.subgame c.in_ok-subgame.ensures.sizes;
      subgame = subst (λ m. IsSubgame c.args.view.now.game.now (members m)) (sym e)
          (subgame_of c.args.view.now.game.now c.args.view.now.mask.now c.args.view.now.size c.args.view.now.no_dead_end);
      order = subst (λ m. IsOrder c.args.view.now.game.now (members m) c.in_ok-order.order) (sym e) c.in_ok-order.ensures;
      placed = rw (c.new-4.ensures.settled, ← c.len.ensures.number) c.in_ok-settled.ensures.placed;
      open_levels = open_levels_start (λ v. rw e refl) (λ p. rw c.new-4.ensures.settled (c.in_ok-settled.ensures.none p)) c.in_ok-set_aside.ensures.items
          c.in_ok-frames.ensures.items;
    }

pub returns-clause-work : goal.returns-clause-work
returns-clause-work c =
    let n = how_many c.args.view.now.mask.now in
    work_start (priority_count c.args.view.now.game.now (members c.args.view.now.mask.now)) n _ n _ (omega arith) c.in_ok-frames.ensures.items
