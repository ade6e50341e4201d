use Rattle.pg_text.proofs.Common.{map, take, line_of, HoldsTable}
use Rattle.pg_text.proofs.solution_text.table_of.Given as goal

abbrev pub invariant-lines : goal.invariant-lines
invariant-lines l = HoldsTable l.game (take l.line-index (map line_of l.lines)) l.table
