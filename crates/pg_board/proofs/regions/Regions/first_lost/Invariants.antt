use Rattle.pg_board.proofs.Common.{table_state}
use Rattle.pg_board.proofs.regions.FirstLost.{NoneBefore}
use Rattle.pg_board.proofs.regions.Regions.first_lost.Given as goal

abbrev pub invariant-rows : goal.invariant-rows
invariant-rows l = NoneBefore (table_state l.self.table.items) l.opponent l.row-items l.row-index
