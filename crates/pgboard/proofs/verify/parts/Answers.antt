use Rattle.pgboard.proofs.Common.{◌+◌, sym, ◌∙◌, take_rest}
use Rattle.pgboard.proofs.verify.JoinedText.{game_before, solution_after, game_alone, no_solution}
use Rattle.pgboard.proofs.verify.parts.Goals as goal

pub returns-in-Some-clause-game : goal.returns-in-Some-clause-game
returns-in-Some-clause-game c = sym (game_before _ _ c.in-Some.ensures)

pub returns-in-Some-clause-solution : goal.returns-in-Some-clause-solution
returns-in-Some-clause-solution c = take_rest c.args.text.now (c.in-Some.at + 1) ∙ sym (solution_after _ _ c.in-Some.ensures)

pub returns-in-None-clause-game : goal.returns-in-None-clause-game
returns-in-None-clause-game c = sym (game_alone _ c.in-None.ensures)

pub returns-in-None-clause-solution : goal.returns-in-None-clause-solution
returns-in-None-clause-solution c = sym (no_solution _ c.in-None.ensures)
