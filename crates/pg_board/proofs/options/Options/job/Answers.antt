use Rattle.pg_board.proofs.Common.{arith}
use Rattle.pg_board.proofs.options.Batches.{job_begins}
use Rattle.pg_board.proofs.options.Options.job.Goals as goal

pub overflow_sub-n : goal.overflow_sub-n
overflow_sub-n c = grind (arith, job_begins, c.batch_of-size.ensures, c.requires.number, c.total-total.ensures.number)
