-- How faults of parsing are named in game texts and in solution texts.
use Rattle.pg_text.specs.declared.fault.ParseFault.{ParseFault}
use Rattle.pg_text.specs.declared.fault.ParseFault.TheVariants as parse
use Rattle.pg_text.specs.declared.fault.TextFault.{TextFault}
use Rattle.pg_text.specs.declared.fault.TextFault.TheVariants as game
use Rattle.pg_text.specs.declared.fault.SolutionTextFault.{SolutionTextFault}
use Rattle.pg_text.specs.declared.fault.SolutionTextFault.TheVariants as solution

abbrev pub game_fault : ParseFault → TextFault
game_fault (parse.Lexical at) = game.Lexical at
game_fault (parse.Syntax at) = game.Syntax at
game_fault (parse.Number at) = game.Number at
game_fault (parse.Player at) = game.Owner at
game_fault parse.Memory = game.Memory

abbrev pub solution_fault : ParseFault → SolutionTextFault
solution_fault (parse.Lexical at) = solution.Lexical at
solution_fault (parse.Syntax at) = solution.Syntax at
solution_fault (parse.Number at) = solution.Number at
solution_fault (parse.Player at) = solution.Winner at
solution_fault parse.Memory = solution.Memory
