use Rattle.pg_board.proofs.Common.{rules}
use Rattle.pg_board.specs.Post.{IsPostAnswer}
use Rattle.pg_board.proofs.RaisedAmount.{amount_fits}
use Rattle.pg_board.proofs.Refused.{refused_through}
use Rattle.pg_board.proofs.office.LockedBoard.post.Goals as goal

pub raise-requires : goal.raise-requires
raise-requires g c = amount_fits c.args.share.now c.requires.lawful c.requires.settled (rw c.in_ok-posted.was at c.post.ensures)

pub returns-in_err-posted-clause-answer : goal.returns-in_err-posted-clause-answer
returns-in_err-posted-clause-answer g c =
    refused_through (IsPostAnswer c.args.self.now.board c.post.new.self c.args.worker c.args.claim.now) c.post.result c.from_residual.result
    c.in_err-posted.field-0.0 (search rules) (search rules) c.post.ensures
