use Rattle.pgboard.proofs.verify.verdict_of.Goals as goal

pub returns-clause-fault : goal.returns-clause-fault
returns-clause-fault c = c.refused_solution.ensures _ _ c.in-Err.ensures.fault
