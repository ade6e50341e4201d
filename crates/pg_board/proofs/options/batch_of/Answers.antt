use Rattle.pg_board.proofs.Common.{arith}
use Rattle.pg_board.proofs.options.Batches.{first_tried, next_tried, last_tried}
use Rattle.pg_board.proofs.options.batch_of.Goals as goal

pub loop-size-init : goal.loop-size-init
loop-size-init c = first_tried c.args.n c.requires

pub loop-size-preserved : goal.loop-size-preserved
loop-size-preserved c = next_tried c.args.n c.loop-size.size c.loop-size.invariant (omega (arith, c.loop-size-test.true, c.batch_count.ensures))

pub returns-clause-size : goal.returns-clause-size
returns-clause-size c = last_tried c.args.n c.loop-size.size c.loop-size.invariant (omega (arith, c.loop-size-test.false, c.batch_count.ensures))
