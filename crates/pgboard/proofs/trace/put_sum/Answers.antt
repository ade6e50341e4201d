use Rattle.pgboard.proofs.Common.{rules, append_assoc, decimal_is_numeral}
use Rattle.pgboard.proofs.trace.put_sum.Goals as goal

pub returns : goal.returns
returns c = search (rules, append_assoc, decimal_is_numeral)
