-- The lines of a solution text for a game: the rows of its vertices, or why there are none.
use Rattle.std.specs.Prelude.{ℕ, ◌≡◌, ◌==◌, Bool, not, List, [], ◌∷◌, length, map, find, slice_get, Option, Some, None, Contains, option_map}
use Rattle.std.specs.Prelude.{count_by, nat_lt, flat_map}
use Rattle.std.specs.List.{list_any}
use Rattle.pg_game.specs.declared.player.Player.{Player}
use Rattle.pg_game.specs.Kept.{option_list}
use Rattle.pg_game.specs.Graph.{Graph}
use Rattle.pg_game.specs.Specification.{first_repeated}
use Rattle.pg_game.specs.Player.{of_digit}
use Rattle.pg_text.specs.SolutionText.{WrittenSolutionLine}
use Rattle.pg_text.specs.Solution.{SolutionRows}

-- the identifier is the game's
abbrev pub is_id : Graph → ℕ → Bool
is_id g id = list_any (λ x. x.id == id) g

-- the vertex of an identifier: how many identifiers are smaller
abbrev pub number_in : Graph → ℕ → ℕ
number_in g id = count_by (λ x. nat_lt x.id id) g

-- the first identifier, of a line or a choice, that is not in the game
abbrev pub first_stranger : Graph → List WrittenSolutionLine → Option ℕ
first_stranger g lines = find (λ i. not (is_id g i)) (flat_map (λ l. l.id ∷ option_list l.choice) lines)

abbrev pub first_twice : List WrittenSolutionLine → Option ℕ
first_twice lines = first_repeated [] (map (λ l. l.id) lines)

-- some line has the identifier
abbrev pub has_line : List WrittenSolutionLine → ℕ → Bool
has_line lines id = list_any (λ l. l.id == id) lines

-- the least identifier without a line
abbrev pub first_missing : Graph → List WrittenSolutionLine → Option ℕ
first_missing g lines = find (λ i. not (has_line lines i)) (map (λ x. x.id) g)

-- the row of a line
abbrev pub row_of_line : Graph → WrittenSolutionLine → Player × Option ℕ
row_of_line g l = (of_digit l.winner, option_map (λ i. number_in g i) l.choice)

-- each line has the row of its vertex
pub record AreRowsOf (g : Graph) (lines : List WrittenSolutionLine) (rows : SolutionRows) : Type 0 where
  pub size : length rows ≡ length g
  pub each : (l : WrittenSolutionLine) → Contains lines l → slice_get rows (number_in g l.id) ≡ Some (row_of_line g l)

-- the lines have the vertices of the game, each once, and these are their rows
pub record AreLinesOf (g : Graph) (lines : List WrittenSolutionLine) (rows : SolutionRows) : Type 0 where
  pub no_stranger : first_stranger g lines ≡ None
  pub once : first_twice lines ≡ None
  pub complete : first_missing g lines ≡ None
  pub says : AreRowsOf g lines rows
