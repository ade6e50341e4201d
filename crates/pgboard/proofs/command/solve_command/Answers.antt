use Rattle.std.proofs.lemmas.Result.{IfOk-weaker}
use Rattle.pgboard.proofs.arguments.CommandLine.{one_more}
use Rattle.pgboard.proofs.command.solve_command.Goals as goal

pub returns : goal.returns
returns c =
    let first = one_more _ _ _ _ _ c.subcommand.ensures c.in_ok-arg.ensures c.workers.ensures.local c.workers.ensures.rule in
    let second = one_more _ _ _ _ _ first c.in_ok-arg-2.ensures c.bound.ensures.local c.bound.ensures.rule in
    let third = one_more _ _ _ _ _ second c.in_ok-arg-3.ensures c.winners.ensures.local c.winners.ensures.rule in
    let fourth = one_more _ _ _ _ _ third c.in_ok-arg-4.ensures c.known.ensures.local c.known.ensures.rule in
    IfOk-weaker c.arg-5.result _ _ (λ command adds. one_more _ _ _ _ _ fourth adds c.game.ensures.local c.game.ensures.rule) c.arg-5.ensures
