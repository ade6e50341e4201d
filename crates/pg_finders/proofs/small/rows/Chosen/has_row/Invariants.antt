use Rattle.pg_finders.proofs.Common.{◌≡◌, false, take, named}
use Rattle.pg_finders.proofs.small.rows.Chosen.has_row.Given as goal

abbrev pub invariant-loop-row : goal.invariant-loop-row
invariant-loop-row l = named (take l.row-index l.row-items) l.v ≡ false
