use Rattle.pg_workers.proofs.Common.{rules, ◌≡◌, ◌<◌, ◌∙◌, length, sym, ap, subst, Graph, ClaimRows, known_rows, IsKnownFault, SolveFault}
use Rattle.pg_workers.proofs.KnownSets.{settles_nothing, settles_known, refused_known}
use Rattle.pg_workers.proofs.known.with_known.Goals as goal

pub returns-then-is_empty-clause-settles : goal.returns-then-is_empty-clause-settles
returns-then-is_empty-clause-settles c =
    let old = c.args.board in let known = c.args.known.now.rows in
    let claim = c.in_ok-claim.claim in
    let is : claim.rows ≡ known_rows old.graph known c.args.player =
    subst (λ (g : Graph). claim.rows ≡ known_rows g known c.args.player) c.game.ensures.graph c.in_ok-claim.ensures.rows in
    let none : length claim.rows ≡ 0 = search rules in
    settles_nothing old.graph c.game.ensures.board.game known c.requires.size c.args.player
    (sym (ap (λ (xs : ClaimRows). length xs) is) ∙ none) old.journal c.requires.none

pub returns-in-Ok-clause-settles : goal.returns-in-Ok-clause-settles
returns-in-Ok-clause-settles c =
    let old = c.args.board in let known = c.args.known.now.rows in
    let claim = c.in_ok-claim.claim in
    let is : claim.rows ≡ known_rows old.graph known c.args.player =
    subst (λ (g : Graph). claim.rows ≡ known_rows g known c.args.player) c.game.ensures.graph c.in_ok-claim.ensures.rows in
    let post = c.in-Ok.ensures in
    settles_known old.graph c.game.ensures.board.game known c.requires.size c.args.player old.journal c.requires.none c.game.ensures.board.lawful
    c.post.new.self post.game _ claim c.in_ok-claim.ensures.player is (post.posted.0, post.posted.1, post.old_copies)

pub returns-clause-fault : goal.returns-clause-fault
returns-clause-fault c =
    let old = c.args.board in let known = c.args.known.now.rows in
    let claim = c.in_ok-claim.claim in
    let is : claim.rows ≡ known_rows old.graph known c.args.player =
    subst (λ (g : Graph). claim.rows ≡ known_rows g known c.args.player) c.game.ensures.graph c.in_ok-claim.ensures.rows in
    let some : 0 < length claim.rows = search rules in let post = c.in-Err.ensures in
    let fault = refused_known old.graph c.game.ensures.board.game known c.requires.size c.args.player old.journal c.requires.none
    c.game.ensures.board.lawful c.post.new.self c.in-Err.refusal claim c.in_ok-claim.ensures.player is some (post.refused, post.old_copies) in
    subst (λ (e : SolveFault). IsKnownFault old.graph old.journal known c.args.player e) (sym c.solve_fault.ensures) fault
