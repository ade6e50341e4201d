use Rattle.std.proofs.Common.{rules}
use Rattle.pgboard.proofs.fault.RunFault.status.Goals as goal

pub returns-in-Read : goal.returns-in-Read
returns-in-Read c = search rules

pub returns-in-Known : goal.returns-in-Known
returns-in-Known c = search rules
