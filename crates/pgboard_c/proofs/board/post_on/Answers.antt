use Rattle.pgboard_c.proofs.Common.{rules, inr, refl, sym, subst}
use Rattle.pg_board.specs.Journal.{state_of}
use Rattle.pg_board.specs.Refusal.{Refuses}
use Rattle.pg_board.specs.declared.journal.Refusal.{Refusal}
use Rattle.pgboard_c.specs.declared.fault.Fault.{Fault}
use Rattle.pgboard_c.specs.Posting.{IsPostFault, claim_lists}
use Rattle.pgboard_c.proofs.PostAnswers.{posted_of, refused_of}
use Rattle.pgboard_c.proofs.board.post_on.Goals as goal

pub returns-in-Ok : goal.returns-in-Ok
returns-in-Ok c =
    let s = c.args.session.now in let t = c.post.new.self in (
      s,
      t,
      refl,
      refl,
      posted_of s.board t.board (claim_lists c.args.given.now) c.in_ok-claim.claim c.in-Ok.made _ c.in_ok-claim.ensures.same
          c.in_ok-claim.ensures.checked c.in-Ok.ensures.answer refl (search rules) (search rules),
    )

pub fault_of-requires : goal.fault_of-requires
fault_of-requires c = λ v e.
    let b = c.args.session.now.board in
    subst (λ (r : Refusal). Refuses b.graph (state_of b.journal) c.in_ok-claim.claim.player c.in_ok-claim.claim.rows r) e c.in-Err.ensures.answer.refused

pub returns : goal.returns
returns c =
    let b = c.args.session.now.board in let given = claim_lists c.args.given.now in
    let fault : IsPostFault b given c.fault_of.result = subst (λ (e : Fault). IsPostFault b given e) (sym c.fault_of.ensures)
    (inr (refused_of b c.post.new.self.board given c.in_ok-claim.claim c.in-Err.refusal c.in_ok-claim.ensures.same
    c.in_ok-claim.ensures.checked c.in-Err.ensures.answer)) in
    (fault, search rules, refl)
