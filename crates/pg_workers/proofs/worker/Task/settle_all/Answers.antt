use Rattle.pg_workers.proofs.Common.{◌≡◌, ◌∙◌, ◌∷◌, ◌++◌, [], ℕ, length, length-append, append_assoc, sym, subst, into_iter_items, AreCounted, ReportRow, noted}
use Rattle.pg_workers.proofs.worker.CountedAnswers.{one_counted}
use Rattle.pg_workers.proofs.worker.Task.settle_all.Goals as goal

pub loop-claim-preserved : goal.loop-claim-preserved
loop-claim-preserved g c =
    let at = c.loop-claim in let i = at.invariant in let x = c.in-Some.claim in
    let steps : into_iter_items at.claim-iterator ≡ x ∷ into_iter_items c.next.new.self = c.in-Some.ensures.steps.0 in
    let old = c.args.row.now in let share = c.args.share.now in let later = c.settle_claim-answer.new.share in
    let more = one_counted (length at.yielded) share at.share later old at.row c.settle_claim-answer.result i.counted c.settle_claim-answer.ensures.raised in
    record {
      claims = append_assoc at.yielded (x ∷ []) _ ∙ rw (← steps) i.claims;
      counted =
          subst (λ (r : ReportRow). AreCounted (length (at.yielded ++ x ∷ [])) old r share later) (sym c.note.ensures)
          (subst (λ (n : ℕ). AreCounted n old (noted at.row c.settle_claim-answer.result) share later) (sym (length-append at.yielded (x ∷ []))) more);
    }
