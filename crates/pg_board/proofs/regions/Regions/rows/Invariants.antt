use Rattle.pg_board.proofs.Common.{◌≡◌, ℕ, ◌<◌, length, slice_get, table_state}
use Rattle.pg_board.proofs.regions.Regions.rows.Given as goal

abbrev pub invariant-table : goal.invariant-table
invariant-table l = record {
  size : length l.rows.items ≡ l.state-index;
  each : (v : ℕ) → v < l.state-index → slice_get l.rows.items v ≡ table_state l.state-items v;
}
