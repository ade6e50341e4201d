use Rattle.std.proofs.Common.{rules}
use Rattle.pg_board.proofs.regions.VertexState.get.Goals as goal

pub returns-in-Won : goal.returns-in-Won
returns-in-Won c = search rules
