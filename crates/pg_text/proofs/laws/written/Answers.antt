use Rattle.pg_text.proofs.Common.{rules}
use Rattle.pg_text.proofs.laws.UniqueTokens.{one_spelling}
use Rattle.pg_text.proofs.WrittenReads.{written_game_reads, written_solution_reads, written_game_is_text, written_solution_is_text}
use Rattle.pg_text.proofs.laws.written.Goals as goal

pub returns : goal.returns
returns c = search (rules, one_spelling, written_game_reads, written_solution_reads, written_game_is_text, written_solution_is_text)
