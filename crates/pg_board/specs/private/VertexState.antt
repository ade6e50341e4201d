-- What a board stores for one vertex, and its state.
use Rattle.std.specs.Prelude.{ℕ, Option, Some, None}
use Rattle.pg_game.specs.declared.player.Player.{Player}
use Rattle.pg_board.specs.declared.regions.VertexState.{VertexState}
use Rattle.pg_board.specs.declared.regions.VertexState.TheVariants.{Unsettled, Won, Chosen}

-- the player and the choice; none if the vertex is unsettled
abbrev pub state_in : VertexState → Option (Player × Option ℕ)
state_in Unsettled = None
state_in (Won p) = Some (p, None)
state_in (Chosen p w) = Some (p, Some w)
