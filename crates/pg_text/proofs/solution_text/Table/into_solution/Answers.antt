use Rattle.pg_text.proofs.Common.{rules}
use Rattle.pg_text.proofs.solution_text.VertexTable.{is_missing, say_rows}
use Rattle.pg_text.proofs.solution_text.Table.into_solution.Goals as goal

pub returns-then-not-has : goal.returns-then-not-has
returns-then-not-has c = search (rules, is_missing, c.vertices.invariant, c.id.ensures)

pub returns : goal.returns
returns c = search (rules, say_rows, c.vertices.invariant, c.new.ensures)
