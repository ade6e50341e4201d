-- What the private lexer returns of the next token of a text: its kind, and the places where it begins and ends.
use Rattle.std.specs.Prelude.{ℕ, ◌≡◌, ◌≤◌, ◌+◌, Bool, false, nat_le, cond, if◌then◌else◌, List, ◌∷◌, ◌++◌, length, drop, codes, ◌⊎◌}
use Rattle.std.specs.Str.{bytes_eq}
use Rattle.pg_game.specs.Specification.{max_number}
use Rattle.pg_text.specs.declared.lexer.Lexeme.{Lexeme}
use Rattle.pg_text.specs.declared.lexer.TokenKind.{TokenKind}
use Rattle.pg_text.specs.declared.lexer.TokenKind.TheVariants as kind
use Rattle.pg_text.specs.Token.{Token, Number, Word, Name, Comma, Semicolon, Begins}
use Rattle.pg_text.specs.Bytes.{AllAre, EndsRun, is_blank, is_digit, is_no_quote, begins_token, value_of}

-- a number, where each above the limit is read as the least of them
abbrev pub clipped : ℕ → ℕ
clipped n = if nat_le n max_number then n else max_number + 1

abbrev pub word_kind : List ℕ → TokenKind
word_kind letters =
    cond (bytes_eq letters (codes "parity")) kind.Parity
    (cond (bytes_eq letters (codes "paritysol")) kind.Paritysol (cond (bytes_eq letters (codes "start")) kind.Start kind.OtherWord))

abbrev pub kind_of : Token → TokenKind
kind_of (Number n) = kind.Number (clipped n)
kind_of (Word letters) = word_kind letters
kind_of (Name bytes) = kind.Name
kind_of Comma = kind.Comma
kind_of Semicolon = kind.Semicolon

-- the value that is read of a number, and 0 of any other token
abbrev pub value_in : TokenKind → ℕ
value_in (kind.Number value) = value
value_in k = 0

-- after the place `at` of the text, past blanks, is this token, and it is whole
pub record IsToken (text : List ℕ) (at from to : ℕ) (t : Token) : Type 0 where
  pub blanks : List ℕ
  pub body : List ℕ
  pub begins : Begins at (drop at text) (record { token = t; place = from }) blanks body (drop to text)
  pub end : to ≡ at + length blanks + length body

-- after the place `at` of the text, past blanks, is a byte that begins no token, or a quote with no later quote
pub record IsNoToken (text : List ℕ) (at from : ℕ) : Type 0 where
  pub blanks : List ℕ
  pub byte : ℕ
  pub after : List ℕ
  pub split : drop at text ≡ blanks ++ byte ∷ after
  pub blank : AllAre is_blank blanks
  pub placed : from ≡ at + length blanks
  pub solid : is_blank byte ≡ false
  pub wrong : (begins_token byte ≡ false) ⊎ ((byte ≡ 34) × AllAre is_no_quote after)

abbrev pub IsLexemeOf : TokenKind → List ℕ → ℕ → ℕ → ℕ → Type 0
IsLexemeOf kind.End text at from to = AllAre is_blank (drop at text)
IsLexemeOf kind.Invalid text at from to = IsNoToken text at from
IsLexemeOf k text at from to = (t : Token) × IsToken text at from to t × (k ≡ kind_of t)

-- the next token of the text after the place
abbrev pub IsNextLexeme : List ℕ → ℕ → Lexeme → Type 0
IsNextLexeme text at lexeme = IsLexemeOf lexeme.kind text at lexeme.from lexeme.to

-- the bytes of the text between the places are a run that passes the test, which ends there
pub record IsRun (test : ℕ → Bool) (text : List ℕ) (from to : ℕ) (run : List ℕ) : Type 0 where
  pub split : drop from text ≡ run ++ drop to text
  pub passes : AllAre test run
  pub end : to ≡ from + length run

-- they are a place of the text and a later one, or the same
pub record IsRangeOf (text : List ℕ) (from to : ℕ) : Type 0 where
  pub order : from ≤ to
  pub within : to ≤ length text

-- a run that no further byte continues
pub record IsWholeRun (test : ℕ → Bool) (text : List ℕ) (from to : ℕ) : Type 0 where
  pub run : (bytes : List ℕ) × IsRun test text from to bytes
  pub within : to ≤ length text
  pub ends : EndsRun test (drop to text)

-- a run of digits that no further digit continues, and its clipped value
pub record IsWholeNumber (text : List ℕ) (from to value : ℕ) : Type 0 where
  pub run : (digits : List ℕ) × IsRun is_digit text from to digits × (value ≡ clipped (value_of digits))
  pub within : to ≤ length text
  pub ends : EndsRun is_digit (drop to text)
