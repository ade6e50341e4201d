-- A journal that settles every vertex, and its solution.
use Rattle.std.specs.Prelude.{ℕ, ◌≡◌, ◌<◌, false, length, slice_get}
use Rattle.pg_game.specs.Graph.{Graph}
use Rattle.pg_text.specs.Solution.{SolutionRows}
use Rattle.pg_board.specs.State.{State, is_unsettled}

abbrev pub IsFull : Graph → State → Type 0
IsFull g st = (v : ℕ) → v < length g → is_unsettled (st v) ≡ false

-- the rows are the state of each vertex
pub record AreStateRows (g : Graph) (st : State) (rows : SolutionRows) : Type 0 where
  pub size : length rows ≡ length g
  pub each : (v : ℕ) → v < length g → slice_get rows v ≡ st v
