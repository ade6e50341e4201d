use Rattle.std.proofs.Common.{rules}
use Rattle.pg_workers.proofs.KeptState.{keeps_settled}
use Rattle.pg_workers.proofs.alone.solve_board.Goals as goal

pub returns-clause-kept : goal.returns-clause-kept
returns-clause-kept c =
    let finish = c.in_ok-finish.ensures in
    keeps_settled c.args.board c.finish.new.self c.solution.result (finish.continued (search rules)) finish.lawful c.solution.ensures
