use Rattle.pg_board.proofs.Common.{◌<◌, ℕ, ◌∷◌, [], length, sym, refl, subst, Graph, unsettled, state_of, IsDominionAfter}
use Rattle.std.proofs.lemmas.Result.{on_ok_weaker}
use Rattle.pg_board.proofs.OwnEntries.{even_due, odd_due, all_settled, both_later, none_later}
use Rattle.pg_board.proofs.board.Board.post_solved.Goals as goal

pub post_part-requires-clause-dominion : goal.post_part-requires-clause-dominion
post_part-requires-clause-dominion c =
    let old = c.args.self.now in let solved = c.args.solved.now in let game = c.game-game.ensures.board in
    even_due old.graph old.journal game.game game.lawful solved.even solved.odd c.requires

pub post_part-requires-2-clause-dominion : goal.post_part-requires-2-clause-dominion
post_part-requires-2-clause-dominion c =
    let old = c.args.self.now in let mid = c.post_part.new.self in let solved = c.args.solved.now in let game = c.game-game.ensures.board in
    let first = c.in_ok-post_part.ensures.later in
    subst (λ (g : Graph). 0 < length solved.odd.rows → (k : ℕ) × IsDominionAfter g mid.journal k solved.odd.player solved.odd.rows) (sym first.graph)
    (odd_due old.graph old.journal game.game game.lawful solved.even solved.odd c.requires first.added mid.journal first.journal)

pub returns-in_err-post_part-clause-later : goal.returns-in_err-post_part-clause-later
returns-in_err-post_part-clause-later c =
    let old = c.args.self.now in let mid = c.post_part.new.self in let solved = c.args.solved.now in
    both_later old mid mid old.graph (unsettled old.graph (state_of old.journal)) solved.even solved.odd c.requires c.in_err-post_part.ensures.later
    (none_later mid mid (solved.odd.player ∷ []) refl)

pub returns-clause-later : goal.returns-clause-later
returns-clause-later c =
    let old = c.args.self.now in let solved = c.args.solved.now in
    both_later old c.post_part.new.self c.post_part-2.new.self old.graph (unsettled old.graph (state_of old.journal)) solved.even solved.odd c.requires
    c.in_ok-post_part.ensures.later c.post_part-2.ensures.later

pub returns-clause-full : goal.returns-clause-full
returns-clause-full c =
    let solved = c.args.solved.now in let first = c.in_ok-post_part.ensures in let second = c.post_part-2.ensures in
    on_ok_weaker c.post_part-2.result
    (all_settled c.args.self.now c.post_part.new.self c.post_part-2.new.self (solved.even.player ∷ []) (solved.odd.player ∷ []) solved.even solved.odd
    first.later second.later c.requires first.settles) second.settles
