-- A written text reads back, and as nothing else; a text has one result; a solution has no fault.
use Rattle.std.specs.Prelude.{ℕ, ◌≡◌, ◌<◌, ◌⊎◌, List, map}
use Rattle.std.specs.List.{AllByRecursion}
use Rattle.pg_game.specs.Graph.{Graph, IsGame}
use Rattle.pg_game.specs.Limits.{IsWithinLimits}
use Rattle.pg_game.specs.Specification.{IsGameOf}
use Rattle.pg_text.specs.declared.fault.TextFault.{TextFault}
use Rattle.pg_text.specs.declared.fault.SolutionTextFault.{SolutionTextFault}
use Rattle.pg_text.specs.declared.fault.SolutionTextFault.TheVariants as solution
use Rattle.pg_game.specs.declared.specification.GameFault.TheVariants as GameFault
use Rattle.pg_text.specs.declared.fault.TextFault.TheVariants.{Game, Memory}
use Rattle.pg_text.specs.Fault.{IsLexicalFault}
use Rattle.pg_text.specs.Reading.{IsTextOf, IsFaultOf, IsSolutionTextOf, IsSolutionFaultOf}
use Rattle.pg_text.specs.Token.{Placed, Spells, tokens_of}
use Rattle.pg_text.specs.GameText as games
use Rattle.pg_text.specs.GameText.{IsGameText, spec_of}
use Rattle.pg_text.specs.SolutionText as solutions
use Rattle.pg_text.specs.SolutionText.{IsSolutionText}
use Rattle.pg_text.specs.Solution.{SolutionRows, AreSolutionRows, IsSolution}
use Rattle.pg_text.specs.Verdict.{LacksChoice, HasBadChoice, Leaves, IsOnBadWalk}
use Rattle.pg_game.specs.Least.{NoneHas}
use Rattle.pg_text.specs.Written.{written_game, written_solution}
use Rattle.pg_text.specs.SolutionLines.{AreLinesOf}

-- a text spells at most one list of tokens
abbrev pub OneSpelling : Type 0
OneSpelling = (text : List ℕ) (ts us : List Placed) → Spells 0 text ts → Spells 0 text us → ts ≡ us

-- the text spells a game text of these lines, with numbers of any size
abbrev pub SpellsLines : List ℕ → List games.WrittenGameLine → Type 0
SpellsLines text lines = (ts : List Placed) × Spells 0 text ts × IsGameText (tokens_of ts) lines

-- the text spells one game text, and its game is this and no other
pub record SpellsOneGame (text : List ℕ) (g : Graph) : Type 0 where
  pub lines : List games.WrittenGameLine
  pub spells : SpellsLines text lines
  pub one_text : (others : List games.WrittenGameLine) → SpellsLines text others → others ≡ lines
  pub owners : AllByRecursion (λ l. l.owner < 2) lines
  pub game : IsGameOf (map spec_of lines) g
  pub one_game : (h : Graph) → IsGameOf (map spec_of lines) h → h ≡ g

-- the text spells a solution text of these lines, with numbers of any size
abbrev pub SpellsRows : List ℕ → List solutions.WrittenSolutionLine → Type 0
SpellsRows text lines = (ts : List Placed) × Spells 0 text ts × IsSolutionText (tokens_of ts) lines

-- the text spells one solution text, and its rows for the game are these and no others
pub record SpellsOneSolution (text : List ℕ) (g : Graph) (rows : SolutionRows) : Type 0 where
  pub lines : List solutions.WrittenSolutionLine
  pub spells : SpellsRows text lines
  pub one_text : (others : List solutions.WrittenSolutionLine) → SpellsRows text others → others ≡ lines
  pub winners : AllByRecursion (λ l. l.winner < 2) lines
  pub says : AreLinesOf g lines rows
  pub one_solution : (others : SolutionRows) → AreLinesOf g lines others → others ≡ rows

abbrev pub WrittenGameReads : Type 0
WrittenGameReads = (g : Graph) → IsGame g → SpellsOneGame (written_game g) g

abbrev pub WrittenSolutionReads : Type 0
WrittenSolutionReads =
    (g : Graph) (rows : SolutionRows) → IsGame g → AreSolutionRows g rows → SpellsOneSolution (written_solution g rows) g rows

-- within the limits of games the written text is one of the game, without fault
abbrev pub WrittenGameIsText : Type 0
WrittenGameIsText = (g : Graph) → IsGame g → IsWithinLimits g → IsTextOf (written_game g) g

-- and that of winners and choices is a text of these
abbrev pub WrittenSolutionIsText : Type 0
WrittenSolutionIsText =
    (g : Graph) (rows : SolutionRows) → IsGame g → IsWithinLimits g → AreSolutionRows g rows → IsSolutionTextOf g (written_solution g rows) rows

-- every text spells tokens or has a lexical fault
abbrev pub TokensOrLexical : Type 0
TokensOrLexical = (text : List ℕ) → ((ts : List Placed) × Spells 0 text ts) ⊎ ((at : ℕ) × IsLexicalFault text at)

-- a text of a game has no fault; refused memory says nothing of the text
abbrev pub TextOrFault : Type 0
TextOrFault = (text : List ℕ) (g : Graph) (fault : TextFault) → IsTextOf text g → IsFaultOf text fault → fault ≡ Memory

-- two faults of one text are the same
abbrev pub OneFault : Type 0
OneFault = (text : List ℕ) (e f : TextFault) → IsFaultOf text e → IsFaultOf text f → (e ≡ Memory) ⊎ ((f ≡ Memory) ⊎ (e ≡ f))

-- refused memory is never a fault of the game
abbrev pub NoGameWantsMemory : Type 0
NoGameWantsMemory = (text : List ℕ) → IsFaultOf text (Game GameFault.Memory) → ⊥

-- a solution text of a game has no fault for it
abbrev pub SolutionTextOrFault : Type 0
SolutionTextOrFault =
    (g : Graph) (text : List ℕ) (rows : SolutionRows) (fault : SolutionTextFault) → IsSolutionTextOf g text rows → IsSolutionFaultOf g text fault
    → fault ≡ solution.Memory

-- two faults of one text for one game are the same
abbrev pub OneSolutionFault : Type 0
OneSolutionFault =
    (g : Graph) (text : List ℕ) (e f : SolutionTextFault) → IsSolutionFaultOf g text e → IsSolutionFaultOf g text f
    → (e ≡ solution.Memory) ⊎ ((f ≡ solution.Memory) ⊎ (e ≡ f))

-- the winners and choices have no fault
pub record HasNoFault (g : Graph) (rows : SolutionRows) : Type 0 where
  pub choices : NoneHas (LacksChoice g rows)
  pub edges : NoneHas (HasBadChoice g rows)
  pub inside : (v w : ℕ) → Leaves g rows v w → ⊥
  pub walks : NoneHas (IsOnBadWalk g rows)

-- a solution has no fault, so winners and choices with one are none
abbrev pub SolutionHasNoFault : Type 0
SolutionHasNoFault = (g : Graph) (rows : SolutionRows) → IsSolution g rows → HasNoFault g rows
