use Rattle.pg_board.proofs.Common.{refl}
use Rattle.pg_board.proofs.OwnEntries.{same_continued}
use Rattle.pg_board.proofs.board.Board.post_job.Goals as goal

pub returns-in_err-copied : goal.returns-in_err-copied
returns-in_err-copied c = same_continued _ _ refl
