use Rattle.std.proofs.lemmas.Result.{IfOk-weaker}
use Rattle.pg_board.proofs.OwnEntries.{continued, then_continued}
use Rattle.pg_board.proofs.UnsettledNumber.{gives_up_before, fewer_unsettled, fewer_priorities}
use Rattle.pg_board.proofs.board.Board.post_all.Goals as goal

pub returns-clause-continued : goal.returns-clause-continued
returns-clause-continued c = then_continued _ _ _ c.in_ok-post_jobs.ensures (continued c.post_rest.ensures.later)

pub returns-clause-limited : goal.returns-clause-limited
returns-clause-limited c =
    IfOk-weaker c.post_rest.result _ _ (λ done h given_up. gives_up_before _ _ _ _ _ (fewer_priorities _ _ c.in_ok-post_jobs.ensures)
    (fewer_unsettled _ _ c.in_ok-post_jobs.ensures) (h given_up))
    c.post_rest.ensures.limited
