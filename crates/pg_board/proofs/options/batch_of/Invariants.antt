use Rattle.pg_board.proofs.Common.{◌-◌}
use Rattle.pg_board.proofs.options.Batches.{IsTried}
use Rattle.pg_board.proofs.options.batch_of.Given as goal

abbrev pub invariant-loop-size : goal.invariant-loop-size
invariant-loop-size l = IsTried l.fn.n l.size

abbrev pub decreases-loop-size : goal.decreases-loop-size
decreases-loop-size l = l.n - l.size
