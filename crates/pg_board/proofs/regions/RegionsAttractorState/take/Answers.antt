use Rattle.pg_board.proofs.Common.{rules}
use Rattle.std.specs.Prelude.{vec_capacity}
use Rattle.pg_board.proofs.regions.WrittenRowSteps.{Takes, HasWritten-take, WritesInTurn-take}
use Rattle.pg_board.proofs.regions.RegionsAttractorState.take.Goals.{After-write_row}
use Rattle.pg_board.proofs.regions.RegionsAttractorState.take.Goals as goal

taken : (c : After-write_row)
    → Takes c.args._game.now c.args.player c.args.self.now c.write_row.new.self c.args.list.now.items (c.args.v, c.args.choice) (vec_capacity c.args.list.now)
taken c = search (rules, c.write_row.ensures.cursors, c.requires.free, c.requires.ready)

pub returns-clause-ready : goal.returns-clause-ready
returns-clause-ready c =
    rw (c.push_reserved.ensures.items, c.push_reserved.ensures.capacity) (HasWritten-take (taken (goal.at.returns-clause-ready c).After-write_row))

pub returns-clause-grown : goal.returns-clause-grown
returns-clause-grown c = rw c.push_reserved.ensures.items (WritesInTurn-take (taken (goal.at.returns-clause-grown c).After-write_row) c.requires.leads)
