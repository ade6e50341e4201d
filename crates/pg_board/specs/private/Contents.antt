-- What a board stores, beside its game.
use Rattle.std.specs.Prelude.{ℕ, Option, Some, None}
use Rattle.pg_game.specs.declared.player.Player.{Player}
use Rattle.pg_game.specs.Graph.{Graph}
use Rattle.pg_game.specs.VertexSet.{In}
use Rattle.pg_dominion.specs.Claim.{ClaimRows, named}
use Rattle.pg_board.specs.declared.contents.Contents.{Contents}
use Rattle.pg_board.specs.BoardRecord.{BoardRecord}
use Rattle.pg_board.specs.State.{settled}
use Rattle.pg_board.specs.Journal.{Journal, state_of}
use Rattle.pg_board.specs.private.Regions.{IsBoard}

abbrev pub board_record : Graph → Contents → BoardRecord
board_record g c = record { graph = g; journal = c.entries.items }

abbrev pub IsContentsOf : Graph → Contents → Type 0
IsContentsOf g c = IsBoard g c.entries.items c.regions c.number

-- the same of a session, which has contents
abbrev pub AreContentsOf : Graph → Option Contents → Type 0
AreContentsOf g None = ⊥
AreContentsOf g (Some c) = IsContentsOf g c

-- the rows' vertices are settled for the player
abbrev pub Settles : Journal → Player → ClaimRows → Type 0
Settles journal p rows = (v : ℕ) → In (named rows) v → In (settled (state_of journal) p) v
