-- What is known of a game: winners and choices of some of its vertices, and the texts of these.
use Rattle.std.specs.Prelude.{ℕ, ◌≡◌, ◌<◌, Bool, false, List, length, Option, Some, None, slice_get, slice_index_or}
use Rattle.std.specs.List.{Contains}
use Rattle.pg_game.specs.declared.player.Player.{Player}
use Rattle.pg_game.specs.Player.{same_player}
use Rattle.pg_game.specs.Graph.{Graph, id_of}
use Rattle.pg_game.specs.VertexSet.{VertexSet}
use Rattle.pg_game.specs.Kept.{Choices}
use Rattle.pg_text.specs.declared.fault.SolutionTextFault.{SolutionTextFault}
use Rattle.pg_text.specs.declared.fault.SolutionTextFault.TheVariants as fault
use Rattle.pg_text.specs.SolutionText.{WrittenSolutionLine}
use Rattle.pg_text.specs.SolutionLines.{first_stranger, first_twice, has_line, row_of_line}
use Rattle.pg_text.specs.Reading.{SpellsSolution, IsSolutionFaultOf}

-- for each vertex its winner, and a choice or none; or nothing
abbrev pub KnownRows : Type 0
KnownRows = List (Option (Player × Option ℕ))

abbrev pub known_at : KnownRows → ℕ → Option (Player × Option ℕ)
known_at rows v = slice_index_or rows v None

abbrev pub is_winner : Player → Option (Player × Option ℕ) → Bool
is_winner p None = false
is_winner p (Some row) = same_player row.0 p

abbrev pub choice_in_row : Option (Player × Option ℕ) → Option ℕ
choice_in_row None = None
choice_in_row (Some row) = row.1

-- the vertices that the player is known to win
abbrev pub known_of : KnownRows → Player → VertexSet
known_of rows p v = is_winner p (known_at rows v)

-- the choices; those at vertices that their winner does not own have no effect
abbrev pub known_choice : KnownRows → Choices
known_choice rows v = choice_in_row (known_at rows v)

-- the lines have only vertices of the game, each once; the rows are those of the lines, and nothing for every other vertex
pub record AreKnownLinesOf (g : Graph) (lines : List WrittenSolutionLine) (rows : KnownRows) : Type 0 where
  pub no_stranger : first_stranger g lines ≡ None
  pub once : first_twice lines ≡ None
  pub size : length rows ≡ length g
  pub said : (v : ℕ) → v < length g → (l : WrittenSolutionLine) → Contains lines l → l.id ≡ id_of g v → slice_get rows v ≡ Some (Some (row_of_line g l))
  pub unsaid : (v : ℕ) → v < length g → has_line lines (id_of g v) ≡ false → slice_get rows v ≡ Some None

-- the text says what is known
pub record IsKnownTextOf (g : Graph) (text : List ℕ) (rows : KnownRows) : Type 0 where
  pub lines : List WrittenSolutionLine
  pub spelled : SpellsSolution text lines
  pub says : AreKnownLinesOf g lines rows

-- the text's first fault, as for solutions, but no vertex is missing
abbrev pub IsKnownFaultOf : Graph → List ℕ → SolutionTextFault → Type 0
IsKnownFaultOf g text (fault.Missing id) = ⊥
IsKnownFaultOf g text f = IsSolutionFaultOf g text f
