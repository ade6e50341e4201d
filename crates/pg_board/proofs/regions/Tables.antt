-- A vertex is settled in the tables: what they say then.
use Rattle.pg_board.proofs.Common.{rules, ◌≡◌, ℕ, ◌<◌, ◌==◌, if◌then◌else◌, false, [], length, set, length-set, Option, Some, and-false, Player, Graph}
use Rattle.pg_board.proofs.Common.{read_set, Regions, State, table_state, state_with, AreRegions}

pub state_with-none : (st : State) (p : Player) (v : ℕ) → state_with st p [] v ≡ st v
state_with-none st p v = search rules

-- the row is written into the tables
pub record Settles (r r' : Regions) (p : Player) (row : ℕ × Option ℕ) : Type 0 where
  pub size : length r'.table.items ≡ length r.table.items
  pub table : (v : ℕ) → table_state r'.table.items v ≡ (if row.0 == v then Some (p, row.1) else table_state r.table.items v)
  pub mask : r'.unsettled ≡ set r.unsettled row.0 false
  pub cursors : r'.cursors ≡ r.cursors

-- the tables after one vertex is settled
module _ (g : Graph) (r r' : Regions) (p : Player) (row : ℕ × Option ℕ) (h : Settles r r' p row) (below : row.0 < length g) (a : AreRegions g r) where
  pub AreRegions-settle : AreRegions g r'
  AreRegions-settle = search (rules, length-set, h.size, h.table, a.size, a.mask_size, h.cursors, a.cursors_size, and-false, read_set)
