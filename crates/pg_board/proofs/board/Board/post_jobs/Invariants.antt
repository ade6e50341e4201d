use Rattle.pg_board.specs.Finish.{IsContinued}
use Rattle.pg_board.proofs.board.Board.post_jobs.Given as goal

abbrev pub invariant-jobs : goal.invariant-jobs
invariant-jobs l = IsContinued l.initial.self l.self
