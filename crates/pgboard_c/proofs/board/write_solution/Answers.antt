use Rattle.pgboard_c.proofs.Common.{rules, ◌≤◌, length, no_choice, IsExactSolution}
use Rattle.pgboard_c.proofs.arrays.ChoiceNumbers.{choices_below}
use Rattle.pgboard_c.proofs.board.write_solution.Goals as goal

pub write_results-requires-clause-below : goal.write_results-requires-clause-below
write_results-requires-clause-below c =
    let exact : IsExactSolution c.args.session.now.board.graph c.in-Some.solution.rows = search rules in let few : length c.args.session.now.board.graph ≤ no_choice = search rules in
    choices_below c.args.session.now.board.graph c.in-Some.solution.rows no_choice c.game-game.ensures.board.game exact few
