use Rattle.std.proofs.Common.{rules}
use Rattle.pgboard.proofs.reading.known_from.Goals as goal

pub returns-in-Err-Memory-clause-fault : goal.returns-in-Err-Memory-clause-fault
returns-in-Err-Memory-clause-fault g c = search rules
