use Rattle.std.proofs.Common.{rules}
use Rattle.pg_dominion.proofs.attractor.FreeVerticesAttractorState.find_way_out.Goals as goal

pub returns-clause-out : goal.returns-clause-out
returns-clause-out c = search rules
