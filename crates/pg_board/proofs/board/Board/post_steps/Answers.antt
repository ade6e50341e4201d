use Rattle.pg_board.proofs.OwnEntries.{shared_out}
use Rattle.pg_board.proofs.Common.{◌∙◌}
use Rattle.pg_board.proofs.Slices.{full_shut}
use Rattle.pg_board.proofs.board.Board.post_steps.Goals as goal

pub post_solved-requires : goal.post_solved-requires
post_solved-requires c =
    shared_out c.args.self.now _ _ _ _ c.requires.graph c.requires.mask (rw c.in-Solved.is at c.in_ok-recursion.ensures.solved)

pub returns-in-Running-clause-last : goal.returns-in-Running-clause-last
returns-in-Running-clause-last c = λ full v o. absurd (full_shut _ _ v full o)

pub returns-in_ok-post_solved-in-Solved-clause-last : goal.returns-in_ok-post_solved-in-Solved-clause-last
returns-in_ok-post_solved-in-Solved-clause-last c = λ full v o. (rw c.in-Solved.is at c.in_ok-recursion.ensures.charged) v (c.requires.mask v ∙ o)
