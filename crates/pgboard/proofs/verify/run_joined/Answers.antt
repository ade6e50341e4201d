use Rattle.pgboard.proofs.Common.{rules, err_from_is_err_and}
use Rattle.pgboard.proofs.verify.JoinedFaults.{err_again, joined_text, no_game, no_solution_of, no_output, judged_within}
use Rattle.pgboard.proofs.verify.run_joined.Goals as goal

pub returns-in_err-game-clause-fault : goal.returns-in_err-game-clause-fault
returns-in_err-game-clause-fault g c =
    let p = err_from_is_err_and c.from_residual-in_err-game.result c.from_residual-in_err-game.ensures.1 in
    let t = joined_text (g.I.Source.left c.args.input.now) c.in_ok-text.ensures.text c.in_ok-text.ensures.limit c.as_slice.ensures.value
    c.parts.ensures.game c.parts.ensures.solution in
    rw (p.1, p.2) (no_game t _ c.in_err-game.ensures.fault)

pub returns-in_err-verdict-clause-fault : goal.returns-in_err-verdict-clause-fault
returns-in_err-verdict-clause-fault g c =
    let p = err_from_is_err_and c.from_residual-in_err-verdict.result c.from_residual-in_err-verdict.ensures.1 in
    let t = joined_text (g.I.Source.left c.args.input.now) c.in_ok-text.ensures.text c.in_ok-text.ensures.limit c.as_slice.ensures.value
    c.parts.ensures.game c.parts.ensures.solution in
    rw (p.1, p.2) (no_solution_of t _ c.in_ok-game.ensures.game _ c.in_err-verdict.ensures.fault)

pub returns-in_err-write_verdict-clause-fault : goal.returns-in_err-write_verdict-clause-fault
returns-in_err-write_verdict-clause-fault g c =
    let p = err_from_is_err_and c.from_residual-in_err-write_verdict.result c.from_residual-in_err-write_verdict.ensures.1 in
    let t = joined_text (g.I.Source.left c.args.input.now) c.in_ok-text.ensures.text c.in_ok-text.ensures.limit c.as_slice.ensures.value
    c.parts.ensures.game c.parts.ensures.solution in
    rw (p.1, p.2)
    (no_output t _ c.in_ok-game.ensures.game c.in_ok-verdict.verdict _ c.in_ok-verdict.ensures.verdict c.in_err-write_verdict.ensures.only)

pub returns-in_err-write_verdict-clause-writes : goal.returns-in_err-write_verdict-clause-writes
returns-in_err-write_verdict-clause-writes g c =
    let p = err_from_is_err_and c.from_residual-in_err-write_verdict.result c.from_residual-in_err-write_verdict.ensures.1 in
    let t = joined_text (g.I.Source.left c.args.input.now) c.in_ok-text.ensures.text c.in_ok-text.ensures.limit c.as_slice.ensures.value
    c.parts.ensures.game c.parts.ensures.solution in
    let judged = judged_within t _ c.in_ok-game.ensures.game c.in_ok-verdict.verdict c.in_ok-verdict.ensures.verdict in
    rw (p.1, p.2) (search (rules, judged, c.in_err-write_verdict.ensures, err_again))

pub returns-clause-writes : goal.returns-clause-writes
returns-clause-writes g c =
    let t = joined_text (g.I.Source.left c.args.input.now) c.in_ok-text.ensures.text c.in_ok-text.ensures.limit c.as_slice.ensures.value
    c.parts.ensures.game c.parts.ensures.solution in
    let judged = judged_within t _ c.in_ok-game.ensures.game c.in_ok-verdict.verdict c.in_ok-verdict.ensures.verdict in
    search (rules, judged)
