-- Specifications, one part of each; places of identifiers in a list of them.
use Rattle.std.specs.Prelude.{ℕ, List, [], map, find, not, nat_eq, Option, None}
use Rattle.std.specs.Prelude.{Some, if◌then◌else◌, nat_lt}
use Rattle.std.specs.List.{list_any}
use Rattle.pg_game.specs.declared.player.Player.{Player}
use Rattle.pg_game.specs.declared.specification.Spec.{Spec}
use Rattle.pg_game.specs.declared.specification.GameFault.{GameFault}
use Rattle.pg_game.specs.declared.specification.GameFault.TheVariants.{Twice, NoSuccessor, TooManyEdges, Unknown}
use Rattle.pg_game.specs.Specification.{fault_or, first_repeated, first_without, first_unknown, edges, max_edges}

abbrev pub ids_of : List Spec → List ℕ
ids_of specs = map (λ s. s.id) specs

abbrev pub priorities_of : List Spec → List ℕ
priorities_of specs = map (λ s. s.priority) specs

abbrev pub owners_of : List Spec → List Player
owners_of specs = map (λ s. s.owner) specs

abbrev pub successor_lists : List Spec → List (List ℕ)
successor_lists specs = map (λ s. s.successors) specs

-- the fault of an identifier that occurs twice
abbrev pub twice_of : List ℕ → Option GameFault
twice_of ids = fault_or (λ i. Twice i) (first_repeated [] ids) None

-- the first fault of a row
abbrev pub rows_fault : List Spec → Option GameFault
rows_fault specs =
    fault_or (λ i. NoSuccessor i) (first_without specs)
    (if nat_lt max_edges (edges specs) then Some TooManyEdges else fault_or (λ (id, i). Unknown id i) (first_unknown specs specs) None)

-- the first that is not among the identifiers
abbrev pub first_outside : List ℕ → List ℕ → Option ℕ
first_outside ids successors = find (λ i. not (list_any (nat_eq i) ids)) successors
