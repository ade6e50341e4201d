use Rattle.pg_workers.proofs.Common.{rules, ◌∙◌}
use Rattle.pg_workers.proofs.KnownSets.{odd_fault, has_known}
use Rattle.pg_workers.proofs.known.board_with.Goals as goal

pub returns-clause-known : goal.returns-clause-known
returns-clause-known c =
    let same = c.in_ok-with_even.ensures.graph ∙ c.in_ok-board.ensures.graph in
    has_known c.args.of.now.game.now c.args.of.now.known.now.rows c.in_ok-board.board c.in_ok-with_even.with_even c.in_ok-board.ensures.graph
    c.in_ok-board.ensures.journal c.in_ok-with_even.ensures.settles same _ (search rules)

pub returns-clause-fault : goal.returns-clause-fault
returns-clause-fault c =
    let same = c.in_ok-with_even.ensures.graph ∙ c.in_ok-board.ensures.graph in
    odd_fault c.args.of.now.game.now c.args.of.now.known.now.rows c.in_ok-board.board c.in_ok-with_even.with_even c.in_ok-board.ensures.graph
    c.in_ok-board.ensures.journal c.in_ok-with_even.ensures.settles same _ (search rules)
