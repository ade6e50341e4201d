-- A run of the recursion.
use Rattle.std.specs.Prelude.{ℕ, List, Bool}
use Rattle.pg_game.specs.Graph.{Graph}

-- a run on a part of a game, with a bound on the steps that remain
pub record Run : Type 0 where
  pub graph : Graph
  pub mask : List Bool
  pub remaining : ℕ
