use Rattle.pg_board.proofs.Common.{subst, BoardRecord}
use Rattle.std.proofs.Common.{IfOk}
use Rattle.pg_board.specs.Board.{IsSolutionOf}
use Rattle.pg_board.proofs.board.Board.solution.Goals as goal

pub returns : goal.returns
returns c = subst (λ (b : BoardRecord). IfOk c.solution.result (IsSolutionOf b)) c.self.view_is c.solution.ensures
