use Rattle.pg_text.proofs.Common.{rules}
use Rattle.pg_text.proofs.solution_text.VertexTable.{next_line, is_stranger}
use Rattle.pg_text.proofs.solution_text.KnownLines.{passed_on}
use Rattle.pg_text.proofs.solution_text.table_of.Goals as goal

pub returns-in_err-add_line : goal.returns-in_err-add_line
returns-in_err-add_line c = search (
  rules,
  is_stranger,
  passed_on,
  c.args.game.now,
  c.args.lines.now,
  c.lines.invariant,
  c.lines.line-index,
  c.lines-test.true,
  c.in_err-add_line.ensures,
  c.from_residual-in_err-add_line.result,
  c.from_residual-in_err-add_line.ensures.1,
)

pub lines-preserved : goal.lines-preserved
lines-preserved c = search (
  rules,
  next_line,
  c.add_line.new.self,
  c.args.game.now,
  c.args.lines.now,
  c.lines.line-index,
  c.lines-test.true,
  c.in_ok-add_line.ensures,
  c.lines.invariant,
)
