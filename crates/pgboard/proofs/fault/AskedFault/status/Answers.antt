use Rattle.std.proofs.Common.{rules}
use Rattle.pgboard.proofs.fault.AskedFault.status.Goals as goal

pub returns-in-Memory : goal.returns-in-Memory
returns-in-Memory c = search rules
