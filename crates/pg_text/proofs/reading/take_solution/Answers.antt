use Rattle.pg_text.proofs.Common.{rules}
use Rattle.pg_text.proofs.reading.RowsOfLines.{rows_read}
use Rattle.pg_text.proofs.reading.take_solution.Goals as goal

pub returns-clause-rows : goal.returns-clause-rows
returns-clause-rows c = search (rules, c.as_slice.ensures.value, c.in_ok-lines.ensures.lines, rows_read, c.solution_of.ensures.rows)
