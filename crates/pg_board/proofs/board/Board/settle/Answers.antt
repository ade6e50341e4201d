use Rattle.pg_board.proofs.Common.{sym, subst, rules, Claim, IsSound, claim_rows, BoardRecord}
use Rattle.pg_dominion.specs.Checked.{AgreesWithGame, IsForeign}
use Rattle.pg_dominion.proofs.AgreeingRows.{sound}
use Rattle.pg_board.specs.Post.{IsPostAnswer}
use Rattle.pg_board.proofs.board.OldCopies.{lawful_record, post_answer, settle_answer}
use Rattle.pg_board.proofs.board.Board.settle.Goals as goal

pub returns-in-Some : goal.returns-in-Some
returns-in-Some c =
    let q = c.args.checked.now in
    let x = c.args.self.now in
    let holds = lawful_record c.self.view_is c.self.invariant in
    record {
      foreign = subst (λ (y : BoardRecord). IsForeign y.graph q.player q.rows c.in-Some.v) c.self.view_is c.in-Some.ensures;
      unchanged = search rules;
      lawful = holds.lawful;
    }

pub settle_sound-requires : goal.settle_sound-requires
settle_sound-requires c =
    let q = c.args.checked.now in
    let b = c.self.inside in
    let here : IsSound b.game.now q.player (claim_rows q.player q.rows) = sound b.game.now q.player q.rows c.claim.ensures.checked c.in_default.ensures in
    subst (λ (y : BoardRecord). IsSound y.graph c.claim.result.now.player c.claim.result.now.rows) c.self.view_is
    (subst (λ (k : Claim). IsSound b.game.now k.player k.rows) (sym c.claim.ensures.claim) here)

pub returns : goal.returns
returns c =
    let q = c.args.checked.now in
    let x = c.args.self.now in
    let s = c.settle_sound in
    let holds = lawful_record c.self.view_is c.self.invariant in
    let agrees = subst (λ (y : BoardRecord). AgreesWithGame y.graph q.player q.rows) c.self.view_is c.in_default.ensures in
    let answered = post_answer x s.new.self c.args.worker c.claim.result.now s.result holds
    (record { game = s.ensures.game; posted = s.ensures.posted; refused = s.ensures.refused; unchanged = s.ensures.unchanged }) in
    settle_answer x s.new.self c.args.worker q s.result agrees s.ensures.of_state
    (subst (λ (k : Claim). IsPostAnswer x s.new.self c.args.worker k s.result) c.claim.ensures.claim answered)
