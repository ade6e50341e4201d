use Rattle.pg_board.proofs.Common.{rules}
use Rattle.pg_board.proofs.regions.WrittenRowSteps.{HasWritten-same}
use Rattle.pg_board.proofs.regions.RegionsAttractorState.find_way_out.Goals as goal

pub returns-clause-ready : goal.returns-clause-ready
returns-clause-ready c = search (rules, HasWritten-same, c.find_successor.ensures.places, c.requires.ready)

pub returns-clause-grown : goal.returns-clause-grown
returns-clause-grown c p = search (rules, c.find_successor.ensures)
