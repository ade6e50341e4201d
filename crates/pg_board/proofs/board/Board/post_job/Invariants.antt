use Rattle.pg_board.specs.Finish.{IsContinued}
use Rattle.pg_board.proofs.board.Board.post_job.Given as goal

abbrev pub invariant-claims : goal.invariant-claims
invariant-claims l = (goal.iterator-claims).can_next l.claim-iterator × (goal.iterator-claims).is_finite l.claim-iterator
    × IsContinued l.initial.self l.self
