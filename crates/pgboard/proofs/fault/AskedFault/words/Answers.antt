use Rattle.std.proofs.Common.{rules}
use Rattle.pgboard.proofs.fault.AskedFault.words.Goals as goal

pub returns-in-Ok : goal.returns-in-Ok
returns-in-Ok c = search rules
