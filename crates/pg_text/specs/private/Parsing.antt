-- The progress of the private reader over a text. A relation connects the tokens with the state and with what the grammar holds.
use Rattle.std.specs.Prelude.{ℕ, ◌≡◌, Bool, List, [], ◌∷◌, ◌++◌, ◌&&◌, Option, None}
use Rattle.std.specs.Option.{is_none}
use Rattle.pg_text.specs.declared.fault.ParseFault.{ParseFault}
use Rattle.pg_text.specs.declared.fault.ParseFault.TheVariants as fault
use Rattle.pg_text.specs.declared.lexer.Lexeme.{Lexeme}
use Rattle.pg_text.specs.declared.reader.Reader.{Reader}
use Rattle.pg_text.specs.declared.reader.State.{State}
use Rattle.pg_text.specs.Fault.{IsLexicalFault, IsSyntaxFault, IsNumberFault, IsPlayerFault, AllFit}
use Rattle.pg_text.specs.Token.{Token, Placed, Spells, tokens_of}
use Rattle.pg_text.specs.private.FirstFault.{placed, FirstLarge, FirstPlayer}
use Rattle.pg_text.specs.private.Machine.{TakenOr, Stops}
use Rattle.pg_text.specs.private.Lexeme.{IsToken, kind_of}
use Rattle.pg_text.specs.private.Reach.{ReadsTo}

-- these tokens were read; their first faults are known, and without one the grammar holds what they say
pub record Keeps {R : Type 0} (Reads : Bool → List Token → State → R → Type 0) (IsBefore : List Token → Type 0) (ts : List Placed) (state : State) (it : R)
    (large wrong : Option ℕ) : Type 0 where
  pub reads : Reads (is_none large && is_none wrong) (tokens_of ts) state it
  pub numbers : FirstLarge ts large
  pub players : large ≡ None → FirstPlayer IsBefore ts wrong

abbrev pub KeepsReader : {R : Type 0} → (Bool → List Token → State → R → Type 0) → (List Token → Type 0) → List Placed → Reader R → Type 0
KeepsReader Reads IsBefore ts r = Keeps Reads IsBefore ts r.state r.grammar r.large r.wrong

-- the reader took the token that the lexeme is, or it is not expected
abbrev pub ReaderTakes : {R : Type 0} → (Bool → List Token → State → R → Type 0) → (List Token → Type 0) → (List Token → Type 0) → Reader R → Reader R → Bool
    → Lexeme → Type 0
ReaderTakes Reads BeginsText IsBefore old new taken lexeme =
    (t : Token) (ts : List Placed) → lexeme.kind ≡ kind_of t → KeepsReader Reads IsBefore ts old
    → TakenOr taken (KeepsReader Reads IsBefore (ts ++ placed t lexeme.from ∷ []) new) (Stops BeginsText (tokens_of ts) t)

-- the token between the places is not expected after those before it
pub record IsUnexpected (BeginsText : List Token → Type 0) (text : List ℕ) (from to : ℕ) : Type 0 where
  pub before : List Placed
  pub at : ℕ
  pub token : Token
  pub reached : ReadsTo text 0 before at
  pub stands : IsToken text at from to token
  pub ends : Stops BeginsText (tokens_of before) token

-- the text spells tokens without a number above the limit, which say this
pub record SpellsLines {L : Type 0} (Says : List Token → L → Type 0) (text : List ℕ) (lines : L) : Type 0 where
  pub tokens : List Placed
  pub spelled : Spells 0 text tokens
  pub numbers : AllFit (tokens_of tokens)
  pub says : Says (tokens_of tokens) lines

-- the text's first fault of spelling; refused memory says nothing of the text
abbrev pub IsParseFaultOf : (List Token → Type 0) → (List Token → Type 0) → (List Token → Type 0) → List ℕ → ParseFault → Type 0
IsParseFaultOf BeginsText IsText IsBefore text (fault.Lexical at) = IsLexicalFault text at
IsParseFaultOf BeginsText IsText IsBefore text (fault.Syntax at) = IsSyntaxFault BeginsText IsText text at
IsParseFaultOf BeginsText IsText IsBefore text (fault.Number at) = IsNumberFault IsText text at
IsParseFaultOf BeginsText IsText IsBefore text (fault.Player at) = IsPlayerFault IsText IsBefore text at
IsParseFaultOf BeginsText IsText IsBefore text fault.Memory = Unit {0}
