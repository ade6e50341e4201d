-- The table of a game's vertices after some lines of a solution text, in a private reader.
use Rattle.std.specs.Prelude.{ℕ, ◌≡◌, ◌<◌, Bool, List, [], ◌∷◌, length, Option, Some, None, slice_index_or}
use Rattle.std.specs.List.{Contains}
use Rattle.pg_game.specs.declared.player.Player.TheVariants.{Even}
use Rattle.pg_game.specs.Graph.{Graph, IsGame, id_of}
use Rattle.pg_game.specs.VertexSet.{members}
use Rattle.pg_text.specs.declared.fault.SolutionTextFault.{SolutionTextFault}
use Rattle.pg_text.specs.declared.fault.SolutionTextFault.TheVariants as fault
use Rattle.pg_text.specs.declared.solution_text.Table.{Table}
use Rattle.pg_text.specs.SolutionText.{WrittenSolutionLine}
use Rattle.pg_text.specs.Solution.{SolutionRows}
use Rattle.pg_text.specs.SolutionLines.{first_stranger, first_twice, first_missing, has_line, row_of_line}

-- the lines have only vertices, and each vertex with a line is marked; if none has two, the rows are those of the lines
pub record HoldsLines (g : Graph) (lines : List WrittenSolutionLine) (rows : SolutionRows) (said : List Bool) (twice : Option ℕ) : Type 0 where
  pub game : IsGame g
  pub size : length rows ≡ length g
  pub marks : length said ≡ length g
  pub no_stranger : first_stranger g lines ≡ None
  pub first : twice ≡ first_twice lines
  pub marked : (v : ℕ) → v < length g → members said v ≡ has_line lines (id_of g v)
  pub says : twice ≡ None → (v : ℕ) → v < length g → (l : WrittenSolutionLine) → Contains lines l → l.id ≡ id_of g v
      → slice_index_or rows v (Even, None) ≡ row_of_line g l

abbrev pub HoldsTable : Graph → List WrittenSolutionLine → Table → Type 0
HoldsTable g lines t = HoldsLines g lines t.rows.items t.said t.twice

-- the vertex has the identifier
pub record IsNamed (g : Graph) (id v : ℕ) : Type 0 where
  pub vertex : v < length g
  pub id_is : id_of g v ≡ id

-- the line names a stranger, and this is the first
abbrev pub IsStrangerOf : Graph → WrittenSolutionLine → SolutionTextFault → Type 0
IsStrangerOf g l (fault.Stranger id) = first_stranger g (l ∷ []) ≡ Some id
IsStrangerOf g l _ = ⊥

-- why the lines have no rows
abbrev pub IsRowFaultOf : Graph → List WrittenSolutionLine → SolutionTextFault → Type 0
IsRowFaultOf g lines (fault.Stranger id) = first_stranger g lines ≡ Some id
IsRowFaultOf g lines (fault.Twice id) = (first_stranger g lines ≡ None) × (first_twice lines ≡ Some id)
IsRowFaultOf g lines (fault.Missing id) = (first_stranger g lines ≡ None) × (first_twice lines ≡ None) × (first_missing g lines ≡ Some id)
IsRowFaultOf g lines fault.Memory = Unit {0}
IsRowFaultOf g lines _ = ⊥

-- why lines have no rows, before the search for vertices without a line
abbrev pub IsLookUpFaultOf : Graph → List WrittenSolutionLine → SolutionTextFault → Type 0
IsLookUpFaultOf g lines (fault.Stranger id) = first_stranger g lines ≡ Some id
IsLookUpFaultOf g lines fault.Memory = Unit {0}
IsLookUpFaultOf g lines _ = ⊥

-- why the lines are none of what is known
abbrev pub IsKnownRowFaultOf : Graph → List WrittenSolutionLine → SolutionTextFault → Type 0
IsKnownRowFaultOf g lines (fault.Missing id) = ⊥
IsKnownRowFaultOf g lines fault = IsRowFaultOf g lines fault
