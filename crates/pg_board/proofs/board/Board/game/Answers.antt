use Rattle.pg_board.proofs.Common.{subst}
use Rattle.pg_board.specs.Board.{IsLawfulBoard}
use Rattle.pg_board.proofs.Numbers.{lawful_board}
use Rattle.pg_board.proofs.board.Board.game.Goals as goal

pub returns-clause-board : goal.returns-clause-board
returns-clause-board c = subst IsLawfulBoard c.self.view_is (lawful_board _ _ _ _ c.self.invariant)
