use Rattle.pg_board.proofs.Common.{rules, ◌≡◌, ◌<◌, length, refl}
use Rattle.pg_board.proofs.OwnEntries.{none_later, settles_none}
use Rattle.pg_board.proofs.board.Board.post_part.Goals as goal

pub returns-then-is_empty-clause-later : goal.returns-then-is_empty-clause-later
returns-then-is_empty-clause-later c = none_later _ _ _ refl

pub returns-then-is_empty-clause-settles : goal.returns-then-is_empty-clause-settles
returns-then-is_empty-clause-settles c =
    let claim = c.args.claim.now in let none : length claim.rows ≡ 0 = search rules in
    settles_none c.args.self.now.journal claim.player claim.rows none

pub returns-clause-settles : goal.returns-clause-settles
returns-clause-settles c =
    let some : 0 < length c.args.claim.now.rows = search rules in
    let d = c.requires.dominion some in
    c.post_own.ensures.settles d.0 d.1
