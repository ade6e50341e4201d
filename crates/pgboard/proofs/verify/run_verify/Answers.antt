use Rattle.pgboard.proofs.Common.{inr, err_from_is_err_and}
use Rattle.pgboard.proofs.verify.run_verify.Goals as goal

pub returns-in_err-verdict-clause-fault : goal.returns-in_err-verdict-clause-fault
returns-in_err-verdict-clause-fault g c =
    let p = err_from_is_err_and c.from_residual-in_err-verdict.result c.from_residual-in_err-verdict.ensures.1 in
    rw (p.1, p.2) (inr (inr (c.in_ok-game.game, c.in_ok-game.ensures.game, c.in_err-verdict.ensures.fault)))
