use Rattle.pg_dominion.proofs.Common.{true≢false, sym, ◌∙◌, arith, below_more, member_below}
use Rattle.pg_dominion.proofs.cycles.first_bad.Goals as goal

pub vertices-preserved : goal.vertices-preserved
vertices-preserved c =
    let out = sym c.has.ensures ∙ c.if-has.false in
    below_more _ _ c.vertices.invariant (λ w. absurd (true≢false (sym w.0 ∙ out)))

pub returns : goal.returns
returns c = λ v w. c.vertices.invariant v (omega (arith, member_below c.args.kept.now.bad v w.0, c.args.kept.now.shape.bad)) w
