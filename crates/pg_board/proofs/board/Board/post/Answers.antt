use Rattle.pg_board.proofs.Common.{◌≡◌, Err, Result, sym, subst, rules, IsClaimFault, Posted, Refusal, BoardRecord, state_of, Refuses, refusal_of}
use Rattle.pg_board.specs.Post.{IsPostAnswer}
use Rattle.pg_board.proofs.board.OldCopies.{lawful_record, post_answer, refusal_answer}
use Rattle.pg_board.proofs.board.Board.post.Goals as goal

pub returns : goal.returns
returns c =
    let holds = lawful_record c.self.view_is c.self.invariant in
    let e = c.settle_sound.ensures in
    post_answer c.args.self.now c.settle_sound.new.self c.args.worker c.args.claim.now c.settle_sound.result holds
    (record { game = e.game; posted = e.posted; refused = e.refused; unchanged = e.unchanged })

pub returns-in_err-judge_claim : goal.returns-in_err-judge_claim
returns-in_err-judge_claim c =
    let x = c.args.self.now in
    let claim = c.args.claim.now in
    let fault = c.in_err-judge_claim.field-0.0 in
    let holds = lawful_record c.self.view_is c.self.invariant in
    let wrong = subst (λ (y : BoardRecord). IsClaimFault y.graph claim.player claim.rows fault) c.self.view_is c.in_err-judge_claim.ensures.fault in
    let refuses : Refuses x.graph (state_of x.journal) claim.player claim.rows (refusal_of fault) = search rules in
    let e : c.from_residual.result ≡ Err (refusal_of fault) = search rules in
    subst (λ (r : Result Posted Refusal). IsPostAnswer x x c.args.worker claim r) (sym e) (refusal_answer x c.args.worker claim (refusal_of fault) holds refuses)
