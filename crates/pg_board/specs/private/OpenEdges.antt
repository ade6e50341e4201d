-- Kept edges of the rest of a claim, row by row.
use Rattle.std.specs.Prelude.{ℕ, ◌≡◌, ◌<◌, ◌&&◌, not, true, false, length, Option, Contains}
use Rattle.pg_game.specs.declared.player.Player.{Player}
use Rattle.pg_game.specs.Graph.{Graph}
use Rattle.pg_game.specs.VertexSet.{VertexSet, In, members}
use Rattle.pg_game.specs.Kept.{kept}
use Rattle.pg_dominion.specs.Claim.{ClaimRows, named}
use Rattle.pg_board.specs.declared.regions.Regions.{Regions}
use Rattle.pg_board.specs.State.{is_unsettled}
use Rattle.pg_board.specs.private.Regions.{table_state}

-- the rows' vertices are unsettled, and the mask has all other unsettled vertices
pub record AreTakenOut (rows : ClaimRows) (r : Regions) : Type 0 where
  pub unsettled : (v : ℕ) → In (named rows) v → is_unsettled (table_state r.table.items v) ≡ true
  pub left : (v : ℕ) → v < length r.table.items → members r.unsettled v ≡ (is_unsettled (table_state r.table.items v) && not (named rows v))

-- the row's kept edge to w ends outside of the set
abbrev pub EndsOutside : Graph → Player → VertexSet → ℕ × Option ℕ → ℕ → Type 0
EndsOutside g p S r w = Contains (kept g p (λ v. r.1) r.0) w × (S w ≡ false)
