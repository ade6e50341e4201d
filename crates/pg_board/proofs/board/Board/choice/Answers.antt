use Rattle.pg_board.proofs.Common.{rules}
use Rattle.pg_board.proofs.board.Board.choice.Goals as goal

pub returns-in_err-choice : goal.returns-in_err-choice
returns-in_err-choice c = search (rules, c.self.invariant.state, c.self.view_is, c.from_residual.ensures, c.in_err-choice.was, c.at.ensures)

pub returns : goal.returns
returns c = search (rules, c.self.invariant.state, c.self.view_is, c.in_ok-choice.was, c.at.ensures)
