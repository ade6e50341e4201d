use Rattle.pgboard.proofs.Common.{◌≡◌, ◌++◌, drop, flat_map, row_line}
use Rattle.pgboard.proofs.trace.put_rows.Given as goal

abbrev pub invariant-loop-row : goal.invariant-loop-row
invariant-loop-row l = l.out.items ++ flat_map (row_line l.game) (drop l.row-index l.rows) ≡ l.fn.out.items ++ flat_map (row_line l.game) l.rows
