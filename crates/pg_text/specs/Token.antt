-- The tokens of game texts and solution texts, and how a text spells them (PGSolver manual).
use Rattle.std.specs.Prelude.{ℕ, ◌≡◌, ◌+◌, ◌<◌, List, [], ◌∷◌, ◌++◌, length, map, ⊤}
use Rattle.pg_text.specs.Bytes.{is_blank, is_digit, is_letter, is_no_quote, AllAre, EndsRun, value_of}

pub data Token : Type 0 where
  Number : (value : ℕ) → Token
  Word : (letters : List ℕ) → Token
  Name : (bytes : List ℕ) → Token
  Comma : Token
  Semicolon : Token

-- the bytes are a spelling of the token
abbrev pub IsSpelling : Token → List ℕ → Type 0
IsSpelling (Number n) bytes = (0 < length bytes) × AllAre is_digit bytes × (n ≡ value_of bytes)
IsSpelling (Word letters) bytes = (0 < length bytes) × AllAre is_letter bytes × (letters ≡ bytes)
IsSpelling (Name inner) bytes = AllAre is_no_quote inner × (bytes ≡ 34 ∷ (inner ++ 34 ∷ []))
IsSpelling Comma bytes = bytes ≡ 44 ∷ []
IsSpelling Semicolon bytes = bytes ≡ 59 ∷ []

-- the token does not continue with the bytes after it: it is as long as it can be
abbrev pub IsWhole : Token → List ℕ → Type 0
IsWhole (Number n) rest = EndsRun is_digit rest
IsWhole (Word letters) rest = EndsRun is_letter rest
IsWhole _ rest = ⊤

-- a token, and the number of bytes of the text before it
pub record Placed : Type 0 where
  pub token : Token
  pub place : ℕ

abbrev pub tokens_of : List Placed → List Token
tokens_of ts = map (λ t. t.token) ts

-- a text that begins at the place: blanks, then the token, then the rest
pub record Begins (place : ℕ) (text : List ℕ) (t : Placed) (blanks body rest : List ℕ) : Type 0 where
  pub split : text ≡ blanks ++ (body ++ rest)
  pub blank : AllAre is_blank blanks
  pub placed : t.place ≡ place + length blanks
  pub spelled : IsSpelling t.token body
  pub whole : IsWhole t.token rest

-- a text that begins at the place spells the tokens: one after another, with blanks before, between and after
abbrev pub Spells : ℕ → List ℕ → List Placed → Type 0
Spells place text [] = AllAre is_blank text
Spells place text (t ∷ ts) = (blanks body rest : List ℕ) × Begins place text t blanks body rest × Spells (place + length blanks + length body) rest ts
