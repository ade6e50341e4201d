use Rattle.pg_board.proofs.Common.{subst, ◌↔◌, BoardRecord, state_of, IsFull}
use Rattle.std.proofs.Common.{IsTrue}
use Rattle.pg_board.proofs.board.Board.is_full.Goals as goal

pub returns : goal.returns
returns c = subst (λ (x : BoardRecord). IsTrue c.is_full.result ↔ IsFull x.graph (state_of x.journal)) c.self.view_is c.is_full.ensures
