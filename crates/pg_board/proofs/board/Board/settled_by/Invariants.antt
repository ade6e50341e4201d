use Rattle.pg_board.proofs.Common.{◌≡◌, take, settled_by}
use Rattle.pg_board.proofs.board.Board.settled_by.Given as goal

abbrev pub invariant-entries : goal.invariant-entries
invariant-entries l = l.total ≡ settled_by (take l.entry-index l.self.journal) l.worker
