use Rattle.std.proofs.Common.{rules}
use Rattle.pgboard.proofs.reading.forward_game_of.Goals as goal

pub returns-in-Err-Memory-clause-fault : goal.returns-in-Err-Memory-clause-fault
returns-in-Err-Memory-clause-fault c = search rules
