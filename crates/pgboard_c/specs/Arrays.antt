-- A game in arrays: compressed sparse rows. Winners and choices in arrays.
use Rattle.std.specs.Prelude.{ℕ, ◌≡◌, ◌+◌, ◌<◌, ◌⊎◌, ◌==◌, List, length, map, slice_index}
use Rattle.std.specs.Prelude.{if◌then◌else◌, Option, Some, None}
use Rattle.std.specs.List.{range_with_len, slice_range}
use Rattle.pg_game.specs.declared.specification.Spec.{Spec}
use Rattle.pg_game.specs.Player.{digit_of, of_digit}
use Rattle.pg_game.specs.Graph.{Graph, IsGame}
use Rattle.pg_game.specs.Specification.{IsGameOf, max_number}
use Rattle.pg_game.specs.Least.{NoneHas}
use Rattle.pg_text.specs.Solution.{SolutionRows, winner_of, choice_of}
use Rattle.pgboard_c.specs.declared.arrays.GameArrays.{GameArrays}
use Rattle.pgboard_c.specs.declared.arrays.Results.{Results}
use Rattle.pgboard_c.specs.declared.arrays.SolutionArrays.{SolutionArrays}
use Rattle.pgboard_c.specs.declared.fault.Structure.TheVariants as structure
use Rattle.pgboard_c.specs.Numbers.{structure_size}

-- vertex v has the targets from starts[v] on, before starts[v + 1]; the size is the one in the struct
pub record GameLists : Type 0 where
  pub size : ℕ
  pub owners : List ℕ
  pub priorities : List ℕ
  pub starts : List ℕ
  pub targets : List ℕ

abbrev pub game_lists : GameArrays → GameLists
game_lists a = record { size = a.size; owners = a.owners.now; priorities = a.priorities.now; starts = a.starts.now; targets = a.targets.now }

abbrev pub targets_of : GameLists → ℕ → List ℕ
targets_of a v = slice_range a.targets (slice_index a.starts v) (slice_index a.starts (v + 1))

-- the struct has its size, and the arrays fit one another: an owner, a priority and a start for each vertex, and one start more; from 0
-- to the number of targets
pub record HaveLengths (a : GameLists) : Type 0 where
  pub size : a.size ≡ structure_size structure.Game
  pub priorities : length a.priorities ≡ length a.owners
  pub starts : length a.starts ≡ length a.owners + 1
  pub first : slice_index a.starts 0 ≡ 0
  pub last : slice_index a.starts (length a.owners) ≡ length a.targets

-- the vertex's row ends before it begins, or after the targets
abbrev pub IsBadRow : GameLists → ℕ → Type 0
IsBadRow a v = (v < length a.owners) × ((slice_index a.starts (v + 1) < slice_index a.starts v) ⊎ (length a.targets < slice_index a.starts (v + 1)))

abbrev pub IsBadOwner : GameLists → ℕ → Type 0
IsBadOwner a v = (v < length a.owners) × (1 < slice_index a.owners v)

abbrev pub IsBadPriority : GameLists → ℕ → Type 0
IsBadPriority a v = (v < length a.owners) × (max_number < slice_index a.priorities v)

pub record AreWellFormed (a : GameLists) : Type 0 where
  pub lengths : HaveLengths a
  pub rows : NoneHas (IsBadRow a)
  pub owners : NoneHas (IsBadOwner a)
  pub priorities : NoneHas (IsBadPriority a)

-- the vertex of the arrays: its identifier is its number
abbrev pub array_spec : GameLists → ℕ → Spec
array_spec a v = record { id = v; priority = slice_index a.priorities v; owner = of_digit (slice_index a.owners v); successors = targets_of a v }

-- the vertices of the arrays, in order
abbrev pub array_specs : GameLists → List Spec
array_specs a = map (array_spec a) (range_with_len 0 (length a.owners))

-- the game of the arrays
abbrev pub IsGameOfArrays : GameLists → Graph → Type 0
IsGameOfArrays a g = AreWellFormed a × IsGame g × IsGameOf (array_specs a) g

-- the number for no choice
abbrev pub no_choice : ℕ
no_choice = 4294967295

abbrev pub choice_from : ℕ → Option ℕ
choice_from n = if n == no_choice then None else Some n

-- the number of a choice or of none; a number below that of no choice comes back by choice_from
abbrev pub choice_number : Option ℕ → ℕ
choice_number None = no_choice
choice_number (Some w) = w

-- winners and choices; the size is the one in the struct
pub record ResultLists : Type 0 where
  pub size : ℕ
  pub winners : List ℕ
  pub choices : List ℕ

abbrev pub solution_lists : SolutionArrays → ResultLists
solution_lists s = record { size = s.size; winners = s.winners.now; choices = s.choices.now }

abbrev pub result_lists : Results → ResultLists
result_lists r = record { size = r.size; winners = r.winners.now; choices = r.choices.now }

-- the struct has the same size and the same two slices; the contents of these may differ
abbrev pub IsSameStruct : Results → Results → Type 0
IsSameStruct old new = (new.size ≡ old.size) × (new.winners.ghost_name ≡ old.winners.ghost_name) × (new.choices.ghost_name ≡ old.choices.ghost_name)

-- so have the contents
abbrev pub AreUnchanged : Results → Results → Type 0
AreUnchanged old new = (result_lists new ≡ result_lists old) × IsSameStruct old new

-- winners as digits, and choices, of all vertices
pub record AreResults (winners choices : List ℕ) (rows : SolutionRows) : Type 0 where
  pub winners_size : length winners ≡ length rows
  pub choices_size : length choices ≡ length rows
  pub winners_are : (v : ℕ) → v < length rows → slice_index winners v ≡ digit_of (winner_of rows v)
  pub choices_are : (v : ℕ) → v < length rows → choice_from (slice_index choices v) ≡ choice_of rows v

abbrev pub IsBadWinner : List ℕ → ℕ → Type 0
IsBadWinner winners v = (v < length winners) × (1 < slice_index winners v)
