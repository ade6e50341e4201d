use Rattle.pg_text.proofs.Common.{rules}
use Rattle.pg_text.proofs.solution_text.KnownLines.{passed_on}
use Rattle.pg_text.proofs.solution_text.known_of.Goals as goal

pub returns-in_err-table_of-clause-rows : goal.returns-in_err-table_of-clause-rows
returns-in_err-table_of-clause-rows c = search (rules, passed_on, c.in_err-table_of.ensures)

pub returns-clause-size : goal.returns-clause-size
returns-clause-size c = let h = c.in_ok-table_of.ensures in search rules

pub returns-clause-rows : goal.returns-clause-rows
returns-clause-rows c = search rules
