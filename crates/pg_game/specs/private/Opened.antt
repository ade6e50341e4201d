-- Specifications, and the successors of one more that is not complete yet (private).
use Rattle.std.specs.Prelude.{ℕ, ◌≤◌, List, length, take}
use Rattle.pg_game.specs.declared.player.Player.{Player}
use Rattle.pg_game.specs.private.Rows.{IsCompressed}
use Rattle.pg_game.specs.private.Stored.{AreParts}
use Rattle.pg_game.specs.Opened.{whole_rows}

pub record IsOpened (ids ps : List ℕ) (os : List Player) (offsets : List ℕ) (closed : ℕ) (targets : List ℕ) : Type 0 where
  pub compressed : IsCompressed offsets (take closed targets)
  pub within : closed ≤ length targets
  pub parts : AreParts ids ps os (whole_rows offsets closed targets)
