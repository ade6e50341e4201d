-- The machine that reads tokens: a table says which state follows a state and a token.
use Rattle.std.specs.Prelude.{ℕ, ◌≡◌, ◌<◌, Bool, true, false, List, [], ◌∷◌, ◌++◌, Option, Some, None, MatchOption}
use Rattle.pg_text.specs.declared.lexer.TokenKind.{TokenKind}
use Rattle.pg_text.specs.declared.reader.State.{State}
use Rattle.pg_text.specs.declared.reader.State.TheVariants as state
use Rattle.pg_text.specs.Token.{Token, Number}
use Rattle.pg_text.specs.private.Lexeme.{kind_of, value_in}

-- the value of a number, and 0 of any other token
abbrev pub number_of : Token → ℕ
number_of (Number n) = n
number_of _ = 0

abbrev pub Table : Type 0
Table = State → TokenKind → Option State

-- the state after the tokens
abbrev pub run : Table → Option State → List Token → Option State
run table None ts = None
run table (Some s) [] = Some s
run table (Some s) (t ∷ ts) = run table (table s (kind_of t)) ts

abbrev pub TakenOr : Bool → Type 0 → Type 0 → Type 0
TakenOr true A B = A
TakenOr false A B = B

-- the tokens begin a text, and with one more they do not
pub record Stops (BeginsText : List Token → Type 0) (ts : List Token) (t : Token) : Type 0 where
  pub begins : BeginsText ts
  pub stops : BeginsText (ts ++ t ∷ []) → ⊥

-- The tokens lead to the state, by some whole lines and a line begun. Where the flag is true, these are what is held
pub record Read {L : Type 0} (table : Table) (Leads : State → List Token → List L → L → Type 0) (sound : Bool) (ts : List Token) (s : State)
    (Agrees : List L → L → Type 0) : Type 0 where
  pub lines : List L
  pub part : L
  pub ran : run table (Some state.Start) ts ≡ Some s
  pub leads : Leads s ts lines part
  pub agrees : sound ≡ true → Agrees lines part

pub weaker : {L : Type 0} {table : Table} {Leads : State → List Token → List L → L → Type 0} {sound later : Bool} {ts : List Token} {s : State}
    {Agrees : List L → L → Type 0} → (later ≡ true → sound ≡ true) → Read table Leads sound ts s Agrees → Read table Leads later ts s Agrees
weaker h k = record { lines = k.lines; part = k.part; ran = k.ran; leads = k.leads; agrees = λ u. k.agrees (h u) }

-- the token was read where its value is this, and a player comes where one may
pub record Enters {R : Type 0} (Reads : Bool → List Token → State → R → Type 0) (IsBefore : List Token → Type 0) (sound : Bool) (ts : List Token) (t : Token)
    (to : State) (new : R) (value : ℕ) : Type 0 where
  pub reads : (sound ≡ true → (value ≡ number_of t) × (to ≡ state.Player → value < 2)) → Reads sound (ts ++ t ∷ []) to new
  pub before : sound ≡ true → to ≡ state.Player → IsBefore ts

-- a token of this kind leads to the next state; where there is none, it is not allowed
abbrev pub Takes : {R : Type 0} → (Bool → List Token → State → R → Type 0) → (List Token → Type 0) → (List Token → Type 0) → R → R → State → TokenKind
    → Option State → Type 0
Takes Reads BeginsText IsBefore old new from kind next =
    (sound : Bool) (ts : List Token) (t : Token) → kind ≡ kind_of t → Reads sound ts from old
    → MatchOption next (Stops BeginsText ts t) (λ to. Enters Reads IsBefore sound ts t to new (value_in kind))

-- the tokens are a text, or they only begin one
abbrev pub IsComplete : (List Token → Type 0) → (List Token → Type 0) → List Token → Bool → Type 0
IsComplete BeginsText IsText ts complete = TakenOr complete (IsText ts) (BeginsText ts × (IsText ts → ⊥))
