use Rattle.pgboard_c.proofs.Common.{sym, subst, Graph, IsGame, IsExactSolution, exact_rows}
use Rattle.pgboard_c.proofs.on_texts.solve.Goals as goal

pub write_solution-requires : goal.write_solution-requires
write_solution-requires c =
    let game = subst (λ (g : Graph). IsGame g) (sym c.in_ok-game.ensures) c.in_ok-forward.ensures.game.0 in
    let found = rw c.in-Some.is at c.in_ok-solution.ensures.exact in
    let exact = subst (λ (g : Graph). IsExactSolution g c.in-Some.solution.rows) c.in_ok-open.ensures.graph found in
    exact_rows _ _ game exact
