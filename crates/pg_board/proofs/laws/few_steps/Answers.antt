use Rattle.pg_finders.proofs.Steps.{steps_exponential, steps_polynomial}
use Rattle.pg_board.proofs.laws.few_steps.Goals as goal

pub returns : goal.returns
returns c d n = (steps_exponential d n, steps_polynomial d n)
