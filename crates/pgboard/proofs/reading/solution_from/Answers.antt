use Rattle.pgboard.proofs.Common.{rules, IsRefusedSolution}
use Rattle.pgboard.proofs.reading.solution_from.Goals as goal

pub returns-in-Err-clause-fault : goal.returns-in-Err-clause-fault
returns-in-Err-clause-fault g c =
    let refused : IsRefusedSolution c.args.game.now c.in_ok-text.text.items c.refused_solution.result = c.refused_solution.ensures _ _ c.in-Err.ensures.fault in
    search (rules, refused, c.in_ok-text.ensures.text, c.in_ok-text.ensures.limit)

pub returns-in-Err-clause-reads : goal.returns-in-Err-clause-reads
returns-in-Err-clause-reads g c =
    let refused : IsRefusedSolution c.args.game.now c.in_ok-text.text.items c.refused_solution.result = c.refused_solution.ensures _ _ c.in-Err.ensures.fault in
    search (rules, refused)
