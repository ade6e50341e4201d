-- Specifications in lists of their parts, and those that are a game unchanged.
use Rattle.std.specs.Prelude.{ℕ, List, map}
use Rattle.pg_game.specs.declared.player.Player.{Player}
use Rattle.pg_game.specs.declared.specification.Spec.{Spec}
use Rattle.pg_game.specs.Graph.{Vertex}
use Rattle.pg_game.specs.View.{graph_of}

-- the same parts as a specification, whose successors are identifiers
abbrev pub spec_from : Vertex → Spec
spec_from x = record { id = x.id; priority = x.priority; owner = x.owner; successors = x.successors }

-- the specifications whose parts are at the same place of each list
abbrev pub specs_from : List ℕ → List ℕ → List Player → List (List ℕ) → List Spec
specs_from ids ps os rows = map spec_from (graph_of ids ps os rows)
