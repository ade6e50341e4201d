-- Specifications, and the successors of one more that is not complete yet.
use Rattle.std.specs.Prelude.{ℕ, List, take, drop}
use Rattle.pg_game.specs.declared.player.Player.{Player}
use Rattle.pg_game.specs.declared.specification.Spec.{Spec}
use Rattle.pg_game.specs.Flat.{specs_from}
use Rattle.pg_game.specs.Rows.{rows_of}

pub record Opened : Type 0 where
  pub specs : List Spec
  pub successors : List ℕ

-- whole rows end where the open one begins
abbrev pub whole_rows : List ℕ → ℕ → List ℕ → List (List ℕ)
whole_rows offsets closed targets = rows_of offsets (take closed targets)

abbrev pub opened_from : List ℕ → List ℕ → List Player → List ℕ → ℕ → List ℕ → Opened
opened_from ids ps os offsets closed targets = record { specs = specs_from ids ps os (whole_rows offsets closed targets); successors = drop closed targets }
