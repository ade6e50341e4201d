use Rattle.std.proofs.lemmas.Result.{on_ok_weaker}
use Rattle.pg_board.proofs.OwnEntries.{settles_claim, one_later, none_later, dropped_settles}
use Rattle.pg_board.proofs.board.Board.post_own.Goals as goal

pub returns-in-Ok-clause-later : goal.returns-in-Ok-clause-later
returns-in-Ok-clause-later c =
    let post = c.in-Ok.ensures in
    one_later c.args.self.now c.post.new.self c.args.claim.now c.in-Ok.field-0 post.game post.posted.1

pub returns-in-Ok-clause-settles : goal.returns-in-Ok-clause-settles
returns-in-Ok-clause-settles c = λ k d. settles_claim _ _ _ _ (c.in-Ok.ensures.old_copies k d).1

pub returns-in-Err-clause-later : goal.returns-in-Err-clause-later
returns-in-Err-clause-later c = none_later _ _ _ c.in-Err.ensures.unchanged

pub returns-in-Err-clause-settles : goal.returns-in-Err-clause-settles
returns-in-Err-clause-settles c = λ k d.
    on_ok_weaker c.dropped.result
    (dropped_settles c.args.self.now c.post.new.self _ _ c.in-Err.refusal (c.in-Err.ensures.old_copies k d).1) c.dropped.ensures
