use Rattle.pg_finders.proofs.Common.{sym, subst, on_ok_weaker, listed, In, Once, AreVertices}
use Rattle.pg_finders.proofs.recursion.LoopSteps.{end_counts}
use Rattle.pg_finders.proofs.recursion.ResumedSolver.{IsResumed, back_partition, back_right, back_listed, back_counts, running_now, fewer_now}
use Rattle.pg_finders.proofs.recursion.ResumedSolver.{opened_right, opened_once, opened_all}
use Rattle.pg_finders.proofs.recursion.Solver.go_back.Goals as goal

pub push_frame_again-requires : goal.push_frame_again-requires
push_frame_again-requires c = c.in_ok-tops.ensures.shrinks.shrunk.few

pub win_back-requires-clause-partition : goal.win_back-requires-clause-partition
win_back-requires-clause-partition c = back_partition c.in_ok-tops.ensures.shrinks c.in_ok-push_frame_again.ensures.pushes

pub win_back-requires-clause-below : goal.win_back-requires-clause-below
win_back-requires-clause-below c = back_right c.in_ok-tops.ensures.shrinks c.in_ok-push_frame_again.ensures.pushes

pub win_back-requires-clause-listed : goal.win_back-requires-clause-listed
win_back-requires-clause-listed c = back_listed c.in_ok-tops.ensures.shrinks c.in_ok-push_frame_again.ensures.pushes

pub win_back-requires-clause-counts : goal.win_back-requires-clause-counts
win_back-requires-clause-counts c = back_counts c.in_ok-tops.ensures.shrinks c.in_ok-push_frame_again.ensures.pushes (end_counts c.requires.end c.args.frame.player)

resumed : (c : goal.After-deref) → IsResumed c.args.view.now.game.now c.args.view.now.mask.now c.args.frame c.args.self.now c.shrink.new.self c.push_frame_again.new.self
    c.win_back.new.self c.in_ok-tops.tops
resumed c = record {
  at_end = c.requires.end;
  some = c.requires.some;
  shrinks = c.in_ok-tops.ensures.shrinks;
  waits = c.in_ok-push_frame_again.ensures.pushes;
  wins = c.in_ok-win_back.ensures.wins;
  partition = c.in_ok-win_back.ensures.partition;
  same = c.in_ok-win_back.ensures.same;
}

pub refill-requires-clause-size : goal.refill-requires-clause-size
refill-requires-clause-size c = c.in_ok-win_back.ensures.partition.sizes.active

pub refill-requires-clause-below : goal.refill-requires-clause-below
refill-requires-clause-below c = subst (AreVertices c.args.view.now.game.now) (sym c.deref.ensures.value) (opened_right (resumed c))

pub refill-requires-clause-once : goal.refill-requires-clause-once
refill-requires-clause-once c = subst Once (sym c.deref.ensures.value) (opened_once (resumed c))

pub refill-requires-clause-listed : goal.refill-requires-clause-listed
refill-requires-clause-listed c = λ v i. subst (λ xs. In (listed xs) v) (sym c.deref.ensures.value) (opened_all (resumed c) v i)

ended : (c : goal.After-refill) → IsResumed c.args.view.now.game.now c.args.view.now.mask.now c.args.frame c.args.self.now c.shrink.new.self c.push_frame_again.new.self
    c.win_back.new.self c.in_ok-tops.tops
ended c = record {
  at_end = c.requires.end;
  some = c.requires.some;
  shrinks = c.in_ok-tops.ensures.shrinks;
  waits = c.in_ok-push_frame_again.ensures.pushes;
  wins = c.in_ok-win_back.ensures.wins;
  partition = c.in_ok-win_back.ensures.partition;
  same = c.in_ok-win_back.ensures.same;
}

pub returns-clause-running : goal.returns-clause-running
returns-clause-running c = on_ok_weaker c.refill.result (λ is. running_now (ended c) c.refill.new.self is) c.refill.ensures

pub returns-clause-fewer : goal.returns-clause-fewer
returns-clause-fewer c = on_ok_weaker c.refill.result (λ is. fewer_now (ended c)) c.refill.ensures
