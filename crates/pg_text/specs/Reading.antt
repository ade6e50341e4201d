-- The results of reading a text: the game or the winners and choices that it spells, or its first fault.
use Rattle.std.specs.Prelude.{ℕ, ◌≡◌, ◌<◌, List, map, Some, None}
use Rattle.std.specs.List.{AllByRecursion}
use Rattle.pg_game.specs.Graph.{Graph}
use Rattle.pg_game.specs.Specification.{IsGameOf, first_fault}
use Rattle.pg_text.specs.declared.fault.TextFault.{TextFault}
use Rattle.pg_text.specs.declared.fault.TextFault.TheVariants as game
use Rattle.pg_text.specs.declared.fault.SolutionTextFault.{SolutionTextFault}
use Rattle.pg_text.specs.declared.fault.SolutionTextFault.TheVariants as solution
use Rattle.pg_text.specs.Token.{Token, Placed, tokens_of, Spells}
use Rattle.pg_text.specs.GameText as games
use Rattle.pg_text.specs.GameText.{IsGameText, BeginsGameText, IsBeforeOwner, spec_of}
use Rattle.pg_text.specs.SolutionText as solutions
use Rattle.pg_text.specs.SolutionText.{IsSolutionText, BeginsSolutionText, IsBeforeWinner}
use Rattle.pg_text.specs.Fault.{IsLexicalFault, IsSyntaxFault, IsNumberFault, IsPlayerFault, AllFit}
use Rattle.pg_text.specs.Solution.{SolutionRows}
use Rattle.pg_text.specs.SolutionLines.{first_stranger, first_twice, first_missing, AreLinesOf}

-- the greatest number of bytes in a text
abbrev pub max_text : ℕ
max_text = 268435456

-- the text spells a game text of these lines, with numbers within the limit and owners 0 and 1
pub record SpellsGame (text : List ℕ) (lines : List games.WrittenGameLine) : Type 0 where
  pub tokens : List Placed
  pub spelled : Spells 0 text tokens
  pub grammar : IsGameText (tokens_of tokens) lines
  pub numbers : AllFit (tokens_of tokens)
  pub owners : AllByRecursion (λ l. l.owner < 2) lines

abbrev pub IsSomeGameText : List Token → Type 0
IsSomeGameText ts = (lines : List games.WrittenGameLine) × IsGameText ts lines

-- the text is one of the game
pub record IsTextOf (text : List ℕ) (g : Graph) : Type 0 where
  pub lines : List games.WrittenGameLine
  pub spelled : SpellsGame text lines
  pub says : IsGameOf (map spec_of lines) g
  pub no_fault : first_fault (map spec_of lines) ≡ None

-- the text's first fault; refused memory says nothing of the text
abbrev pub IsFaultOf : List ℕ → TextFault → Type 0
IsFaultOf text (game.Lexical at) = IsLexicalFault text at
IsFaultOf text (game.Syntax at) = IsSyntaxFault BeginsGameText IsSomeGameText text at
IsFaultOf text (game.Number at) = IsNumberFault IsSomeGameText text at
IsFaultOf text (game.Owner at) = IsPlayerFault IsSomeGameText IsBeforeOwner text at
IsFaultOf text (game.Game fault) = (lines : List games.WrittenGameLine) × SpellsGame text lines × (first_fault (map spec_of lines) ≡ Some fault)
IsFaultOf text game.Memory = Unit {0}

-- the text spells a solution text of these lines, with numbers within the limit and winners 0 and 1
pub record SpellsSolution (text : List ℕ) (lines : List solutions.WrittenSolutionLine) : Type 0 where
  pub tokens : List Placed
  pub spelled : Spells 0 text tokens
  pub grammar : IsSolutionText (tokens_of tokens) lines
  pub numbers : AllFit (tokens_of tokens)
  pub winners : AllByRecursion (λ l. l.winner < 2) lines

abbrev pub IsSomeSolutionText : List Token → Type 0
IsSomeSolutionText ts = (lines : List solutions.WrittenSolutionLine) × IsSolutionText ts lines

-- the text is one of these winners and choices
pub record IsSolutionTextOf (g : Graph) (text : List ℕ) (rows : SolutionRows) : Type 0 where
  pub lines : List solutions.WrittenSolutionLine
  pub spelled : SpellsSolution text lines
  pub says : AreLinesOf g lines rows

-- the text's first fault for this game; refused memory says nothing of the text
abbrev pub IsSolutionFaultOf : Graph → List ℕ → SolutionTextFault → Type 0
IsSolutionFaultOf g text (solution.Lexical at) = IsLexicalFault text at
IsSolutionFaultOf g text (solution.Syntax at) = IsSyntaxFault BeginsSolutionText IsSomeSolutionText text at
IsSolutionFaultOf g text (solution.Number at) = IsNumberFault IsSomeSolutionText text at
IsSolutionFaultOf g text (solution.Winner at) = IsPlayerFault IsSomeSolutionText IsBeforeWinner text at
IsSolutionFaultOf g text (solution.Stranger id) = (lines : List solutions.WrittenSolutionLine) × SpellsSolution text lines × (first_stranger g lines ≡ Some id)
IsSolutionFaultOf g text (solution.Twice id) =
    (lines : List solutions.WrittenSolutionLine) × SpellsSolution text lines × (first_stranger g lines ≡ None) × (first_twice lines ≡ Some id)
IsSolutionFaultOf g text (solution.Missing id) =
    (lines : List solutions.WrittenSolutionLine) × SpellsSolution text lines × (first_stranger g lines ≡ None) × (first_twice lines ≡ None)
    × (first_missing g lines ≡ Some id)
IsSolutionFaultOf g text solution.Memory = Unit {0}
