use Rattle.pgboard.proofs.Common.{◌≡◌, true, Bool, sym, subst, exact_rows, IsSolveText}
use Rattle.std.proofs.lemmas.Result.{IfOk-weaker}
use Rattle.pgboard.proofs.solve.ExactSolutions.{winners_text}
use Rattle.pgboard.proofs.solve.text_of.Goals as goal

pub write_winners-requires : goal.write_winners-requires
write_winners-requires c = exact_rows _ _ c.requires.game c.requires.exact

pub write_solution-requires : goal.write_solution-requires
write_solution-requires c = exact_rows _ _ c.requires.game c.requires.exact

pub returns-then-winners : goal.returns-then-winners
returns-then-winners c = λ known kept.
    let winners : c.args.winners ≡ true = c.if-winners.true in
    IfOk-weaker c.write_winners.result _ _
    (λ text is. subst (λ (b : Bool). IsSolveText b c.args.game.now known text.items) (sym winners)
    (winners_text _ _ _ c.requires.exact is)) c.write_winners.ensures.text
