use Rattle.pg_board.proofs.Common.{◌≡◌, ℕ, length, take, members, table_state, state_with, open_before, HasWritten}
use Rattle.pg_board.proofs.regions.Regions.write_rows.Given as goal

abbrev pub invariant-rows : goal.invariant-rows
invariant-rows l = record {
  growing : HasWritten l.game l.self (take l.row-index l.rows) (length l.game);
  same : (v : ℕ) → open_before l.self (take l.row-index l.rows) v ≡ members l.fn.self.unsettled v;
  written : (v : ℕ) → table_state l.self.table.items v ≡ state_with (table_state l.fn.self.table.items) l.player (take l.row-index l.rows) v;
}
