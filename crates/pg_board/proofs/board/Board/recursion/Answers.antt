use Rattle.pg_board.proofs.Common.{rules}
use Rattle.pg_board.proofs.Slices.{begun_on}
use Rattle.pg_board.proofs.board.Board.recursion.Goals as goal

pub returns : goal.returns
returns c = begun_on c.args.self.now.graph _ c.args.self.now.journal _ c.begin.result c.begin.ensures.graph c.begin.ensures.mask c.begin.ensures.remaining
    c.requires (search rules) (λ v. search rules)
