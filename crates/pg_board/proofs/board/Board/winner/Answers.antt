use Rattle.std.proofs.Common.{rules}
use Rattle.pg_board.proofs.board.Board.winner.Goals as goal

pub returns : goal.returns
returns c = search rules
