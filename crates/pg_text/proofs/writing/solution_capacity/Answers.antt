use Rattle.pg_text.proofs.Common.{arith}
use Rattle.pg_text.proofs.writing.Lengths.{long_solution}
use Rattle.pg_text.proofs.writing.solution_capacity.Goals as goal

pub returns : goal.returns
returns c rows e = omega (arith, long_solution c.args.game.now rows e, c.len.ensures.number)
