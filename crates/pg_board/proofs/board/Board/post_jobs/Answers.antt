use Rattle.pg_board.proofs.Common.{refl}
use Rattle.pg_board.proofs.OwnEntries.{same_continued, then_continued}
use Rattle.pg_board.proofs.board.Board.post_jobs.Goals as goal

pub jobs-init : goal.jobs-init
jobs-init c = same_continued _ _ refl

pub jobs-preserved : goal.jobs-preserved
jobs-preserved c = then_continued _ _ _ c.jobs.invariant c.in_ok-post_job.ensures
