use Rattle.pg_finders.proofs.Common.{◌+◌, ◌≤◌, ◌⊎◌, ℕ, In, active_of, IsSolverState, work, AreFewer, HasStepped, number_left}
use Rattle.pg_finders.proofs.recursion.Solver.run.Given as goal

abbrev pub invariant-steps : goal.invariant-steps
invariant-steps l = record {
  running : IsSolverState l.view.game.now l.view.mask.now l.self;
  fewer : AreFewer l.initial.left l.left;
  spends : work l.view.game.now l.view.mask.now l.self + number_left l.initial.left ≤ work l.view.game.now l.view.mask.now l.fn.self + number_left l.left;
  charged : (v : ℕ) → In (active_of l.fn.self.partition.subgame) v → HasStepped l.initial.left l.left ⊎ In (active_of l.self.partition.subgame) v;
}

abbrev pub decreases-steps : goal.decreases-steps
decreases-steps l = work l.view.game.now l.view.mask.now l.self
