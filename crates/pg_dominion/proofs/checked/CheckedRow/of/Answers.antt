use Rattle.std.proofs.Common.{rules}
use Rattle.pg_dominion.proofs.checked.CheckedRow.of.Goals as goal

pub returns-clause-agrees : goal.returns-clause-agrees
returns-clause-agrees c = search rules
