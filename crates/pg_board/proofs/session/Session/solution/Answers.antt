use Rattle.pg_board.proofs.Common.{◌≡◌, ◌∙◌, subst, ap, Graph, BoardRecord}
use Rattle.std.proofs.Common.{IfOk}
use Rattle.pg_board.specs.Board.{IsSolutionOf}
use Rattle.pg_board.specs.BoardRecord.{SessionRecord}
use Rattle.pg_board.specs.private.Contents.{board_record}
use Rattle.pg_board.proofs.session.Session.solution.Goals as goal

pub returns : goal.returns
returns c =
    let own : board_record c.deref.result.now c.contents.result.now ≡ c.args.self.now.board =
    ap (λ (g : Graph). board_record g c.contents.result.now) (c.deref.ensures ∙ ap (λ (x : SessionRecord). x.board.graph) c.self.view_is)
    ∙ c.contents.ensures.same in
    subst (λ (b : BoardRecord). IfOk c.solution.result (IsSolutionOf b)) own c.solution.ensures
