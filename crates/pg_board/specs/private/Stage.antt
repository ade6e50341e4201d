-- Where the slices of a board are.
use Rattle.std.specs.Prelude.{ℕ, ◌≡◌, ◌≤◌}
use Rattle.pg_game.specs.Graph.{Graph}
use Rattle.pg_game.specs.VertexSet.{members}
use Rattle.pg_finders.specs.Run.{Run}
use Rattle.pg_board.specs.Slices.{most_steps}
use Rattle.pg_board.specs.State.{unsettled}
use Rattle.pg_board.specs.Journal.{Journal, state_of}
use Rattle.pg_board.specs.declared.advance.Stage.{Stage}
use Rattle.pg_board.specs.declared.advance.Stage.TheVariants as stage

-- the run is on what the journal leaves unsettled
pub record IsRunOn (g : Graph) (journal : Journal) (r : Run) : Type 0 where
  pub graph : r.graph ≡ g
  pub mask : (v : ℕ) → members r.mask v ≡ unsettled g (state_of journal) v
  pub few : r.remaining ≤ most_steps g

abbrev pub IsStageOf : Graph → Journal → Stage → Type 0
IsStageOf g journal (stage.Search number) = Unit {0}
IsStageOf g journal (stage.Recursion r) = IsRunOn g journal r
