-- The tables of a board beside its journal.
use Rattle.std.specs.Prelude.{ℕ, ◌≡◌, List, length, Some, None, if◌then◌else◌, slice_index_or}
use Rattle.pg_game.specs.declared.player.Player.{Player}
use Rattle.pg_game.specs.Graph.{Graph, IsGame}
use Rattle.pg_game.specs.Limits.{IsWithinLimits}
use Rattle.pg_game.specs.VertexSet.{members}
use Rattle.pg_dominion.specs.Claim.{ClaimRows, named, choice_in}
use Rattle.pg_board.specs.declared.regions.Regions.{Regions}
use Rattle.pg_board.specs.declared.regions.VertexState.{VertexState}
use Rattle.pg_board.specs.declared.regions.VertexState.TheVariants.{Unsettled}
use Rattle.pg_board.specs.private.VertexState.{state_in}
use Rattle.pg_board.specs.State.{State, is_unsettled, unsettled}
use Rattle.pg_board.specs.Journal.{Journal, state_of, IsLawful, number_settled}

-- the state in a table: nothing past its end
abbrev pub table_state : List VertexState → State
table_state table v = state_in (slice_index_or table v Unsettled)

-- the state after a player's rows, which leave settled vertices unchanged
abbrev pub state_with : State → Player → ClaimRows → State
state_with st p rows v = if is_unsettled (st v) then (if named rows v then Some (p, choice_in rows v) else None) else st v

-- one row for each vertex; the mask has the unsettled ones, and each vertex has a cursor
pub record AreRegions (g : Graph) (r : Regions) : Type 0 where
  pub size : length r.table.items ≡ length g
  pub mask_size : length r.unsettled ≡ length g
  pub cursors_size : length r.cursors.places.items ≡ length g
  pub mask : (v : ℕ) → members r.unsettled v ≡ unsettled g (table_state r.table.items) v

-- the graph is a game within the limits, the journal is lawful, and the table and the number are its state and its number settled
pub record IsBoard (g : Graph) (journal : Journal) (r : Regions) (number : ℕ) : Type 0 where
  pub game : IsGame g
  pub limits : IsWithinLimits g
  pub lawful : IsLawful g journal
  pub regions : AreRegions g r
  pub state : (v : ℕ) → table_state r.table.items v ≡ state_of journal v
  pub number_is : number ≡ number_settled journal
