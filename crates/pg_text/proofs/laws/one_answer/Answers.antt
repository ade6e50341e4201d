use Rattle.pg_text.proofs.Common.{rules}
use Rattle.pg_text.proofs.laws.FaultOrTokens.{tokens_or_lexical}
use Rattle.pg_text.proofs.OneFault.{text_or_fault, one_fault, no_game_wants_memory}
use Rattle.pg_text.proofs.OneSolutionFault.{one_solution_fault, solution_text_or_fault}
use Rattle.pg_text.proofs.laws.one_answer.Goals as goal

pub returns : goal.returns
returns c = search (rules, tokens_or_lexical, text_or_fault, one_fault, no_game_wants_memory, solution_text_or_fault, one_solution_fault)
