-- What is known of a solution text of which some tokens were read.
use Rattle.std.specs.Prelude.{ℕ, ◌≡◌, ◌<◌, Bool, List, [], ◌∷◌, ◌++◌, map, codes, Option, None}
use Rattle.std.specs.List.{AllByRecursion}
use Rattle.pg_game.specs.Player.{digit_of}
use Rattle.pg_text.specs.declared.reader.State.{State}
use Rattle.pg_text.specs.declared.reader.State.TheVariants as state
use Rattle.pg_text.specs.declared.solution_text.SolutionLine.{SolutionLine}
use Rattle.pg_text.specs.declared.solution_text.SolutionText.{SolutionText}
use Rattle.pg_text.specs.Token.{Token, Number, Word}
use Rattle.pg_text.specs.SolutionText.{WrittenSolutionLine, IsSolutionText, choice_tokens}
use Rattle.pg_text.specs.private.Machine.{Read}
use Rattle.pg_text.specs.private.Tables.{solution_table}

abbrev pub line_of : SolutionLine → WrittenSolutionLine
line_of l = record { id = l.id; winner = digit_of l.winner; choice = l.choice }

-- the tokens of a line begun
abbrev pub begun : State → WrittenSolutionLine → List Token
begun state.Id l = Number l.id ∷ []
begun state.Player l = Number l.id ∷ Number l.winner ∷ choice_tokens l.choice
begun state.Vertex l = Number l.id ∷ Number l.winner ∷ choice_tokens l.choice
begun s l = []

abbrev pub IsBegun : State → WrittenSolutionLine → Type 0
IsBegun state.Id l = Unit {0}
IsBegun state.Player l = l.choice ≡ None
IsBegun state.Vertex l = Unit {0}
IsBegun s l = ⊥

-- the tokens lead to the state: they are those of whole lines and of a line begun
abbrev pub Leads : State → List Token → List WrittenSolutionLine → WrittenSolutionLine → Type 0
Leads state.Start ts lines l = (ts ≡ []) × (lines ≡ [])
Leads state.HeadWord ts lines l = (ts ≡ Word (codes "paritysol") ∷ []) × (lines ≡ [])
Leads state.HeadNumber ts lines l = (m : ℕ) × (ts ≡ Word (codes "paritysol") ∷ Number m ∷ []) × (lines ≡ [])
Leads state.Headed ts lines l = IsSolutionText ts lines
Leads state.Ready ts lines l = IsSolutionText ts lines
Leads s ts lines l = (done : List Token) × IsSolutionText done lines × IsBegun s l × (ts ≡ done ++ begun s l)

-- the lines and the line begun are these
pub record Agrees (lines : List WrittenSolutionLine) (l : WrittenSolutionLine) (held : List WrittenSolutionLine) (id winner : ℕ) (choice : Option ℕ) : Type 0 where
  pub lines_are : held ≡ lines
  pub id_is : id ≡ l.id
  pub winner_is : winner ≡ l.winner
  pub choice_is : choice ≡ l.choice

abbrev pub ReadsSolution : Bool → List Token → State → SolutionText → Type 0
ReadsSolution sound ts s it = Read solution_table Leads sound ts s (λ lines l. Agrees lines l (map line_of it.lines.items) it.id (digit_of it.winner) it.choice)

abbrev pub AreWinners : List WrittenSolutionLine → Type 0
AreWinners lines = AllByRecursion (λ l. l.winner < 2) lines

-- the tokens are a solution text of these lines, whose winners are 0 or 1
pub record SaysLines (ts : List Token) (lines : List WrittenSolutionLine) : Type 0 where
  pub grammar : IsSolutionText ts lines
  pub winners : AreWinners lines
