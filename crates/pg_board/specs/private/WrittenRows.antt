-- A region that grows in place: vertices are settled one after another, each with its row.
use Rattle.std.specs.Prelude.{ℕ, ◌≡◌, ◌≤◌, ◌+◌, false, length}
use Rattle.pg_game.specs.declared.player.Player.{Player}
use Rattle.pg_game.specs.Graph.{Graph}
use Rattle.pg_game.specs.VertexSet.{VertexSet, In, members, union, how_many}
use Rattle.pg_dominion.specs.Claim.{ClaimRows, named}
use Rattle.pg_dominion.specs.ExtendedRows.{Extends}
use Rattle.pg_board.specs.declared.regions.Regions.{Regions}
use Rattle.pg_board.specs.State.{State}
use Rattle.pg_board.specs.private.Regions.{table_state, state_with, AreRegions}

-- the vertices that were unsettled before the rows
abbrev pub open_before : Regions → ClaimRows → VertexSet
open_before r rows = union (members r.unsettled) (named rows)

-- the vertices of the rows are settled, and there is capacity for rows of all others
pub record HasWritten (g : Graph) (r : Regions) (rows : ClaimRows) (spare : ℕ) : Type 0 where
  pub regions : AreRegions g r
  pub apart : (v : ℕ) → In (named rows) v → members r.unsettled v ≡ false
  pub fits : length rows + how_many r.unsettled ≤ spare

-- the region with its rows before, and later: each new row leads to earlier ones, and the tables have them
pub record WritesInTurn (g : Graph) (p : Player) (r : Regions) (rows : ClaimRows) (r' : Regions) (rows' : ClaimRows) : Type 0 where
  pub extends : Extends g p (members r.unsettled) rows (members r'.unsettled) rows'
  pub tells : (st : State) → ((v : ℕ) → table_state r.table.items v ≡ state_with st p rows v) → (v : ℕ) → table_state r'.table.items v ≡ state_with st p rows' v
