use Rattle.pgboard_c.proofs.Common.{rules, IsExactSolution, exact_rows}
use Rattle.pgboard_c.proofs.board_texts.write_text.Goals as goal

pub write_solution-requires : goal.write_solution-requires
write_solution-requires c =
    let exact : IsExactSolution c.args.session.now.board.graph c.in-Some.solution.rows = search rules in search (rules, exact_rows, exact)
