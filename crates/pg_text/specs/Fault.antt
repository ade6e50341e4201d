-- The first faults of a text, by place.
use Rattle.std.specs.Prelude.{ℕ, ◌≡◌, ◌<◌, ◌⊎◌, Bool, true, false, nat_le, List, [], ◌∷◌, ◌++◌, length}
use Rattle.std.specs.List.{AllByRecursion}
use Rattle.pg_game.specs.Specification.{max_number}
use Rattle.pg_text.specs.Token.{Token, Number, Placed, tokens_of, Spells}
use Rattle.pg_text.specs.Bytes.{AllAre, is_blank, is_no_quote, begins_token}

-- whole tokens end before the place; the byte there is neither a blank nor the first of a token, or it is a quote that is never closed
pub record IsLexicalFault (text : List ℕ) (place : ℕ) : Type 0 where
  pub before : List ℕ
  pub byte : ℕ
  pub after : List ℕ
  pub tokens : List Placed
  pub split : text ≡ before ++ byte ∷ after
  pub placed : place ≡ length before
  pub spelled : Spells 0 before tokens
  pub solid : is_blank byte ≡ false
  pub wrong : (begins_token byte ≡ false) ⊎ ((byte ≡ 34) × AllAre is_no_quote after)

-- at the place is a token with which those before it begin no text
pub record IsFirstUnexpected (BeginsText : List Token → Type 0) (tokens : List Placed) (place : ℕ) : Type 0 where
  pub before : List Placed
  pub after : List Placed
  pub token : Placed
  pub split : tokens ≡ before ++ token ∷ after
  pub placed : place ≡ token.place
  pub begins : BeginsText (tokens_of before)
  pub stops : BeginsText (tokens_of before ++ token.token ∷ []) → ⊥

-- all tokens begin a text and are none, and the place is the text's length
pub record EndsTooEarly (BeginsText IsText : List Token → Type 0) (text : List ℕ) (tokens : List Placed) (place : ℕ) : Type 0 where
  pub placed : place ≡ length text
  pub begins : BeginsText (tokens_of tokens)
  pub incomplete : IsText (tokens_of tokens) → ⊥

-- the text spells tokens, of which one is not expected at the place, or more are
pub record IsSyntaxFault (BeginsText IsText : List Token → Type 0) (text : List ℕ) (place : ℕ) : Type 0 where
  pub tokens : List Placed
  pub spelled : Spells 0 text tokens
  pub wrong : IsFirstUnexpected BeginsText tokens place ⊎ EndsTooEarly BeginsText IsText text tokens place

-- the number is within the limit
abbrev pub fits : Token → Bool
fits (Number n) = nat_le n max_number
fits _ = true

abbrev pub AllFit : List Token → Type 0
AllFit ts = AllByRecursion (λ t. fits t ≡ true) ts

-- at the place is the first number above the limit
pub record IsFirstLarge (tokens : List Placed) (place : ℕ) : Type 0 where
  pub before : List Placed
  pub after : List Placed
  pub token : Placed
  pub split : tokens ≡ before ++ token ∷ after
  pub placed : place ≡ token.place
  pub small : AllFit (tokens_of before)
  pub large : fits token.token ≡ false

-- the text is of the grammar, and at the place is its first number above the limit
pub record IsNumberFault (IsText : List Token → Type 0) (text : List ℕ) (place : ℕ) : Type 0 where
  pub tokens : List Placed
  pub spelled : Spells 0 text tokens
  pub grammar : IsText (tokens_of tokens)
  pub first : IsFirstLarge tokens place

-- at the place, after tokens of the kind, is a number above 1
pub record IsWrongPlayer (IsBefore : List Token → Type 0) (tokens : List Placed) (place : ℕ) : Type 0 where
  pub before : List Placed
  pub after : List Placed
  pub token : Placed
  pub number : ℕ
  pub split : tokens ≡ before ++ token ∷ after
  pub placed : place ≡ token.place
  pub expected : IsBefore (tokens_of before)
  pub number_is : token.token ≡ Number number
  pub wrong : 1 < number

-- the text is of the grammar and its numbers fit, and at the place is its first wrong player
pub record IsPlayerFault (IsText IsBefore : List Token → Type 0) (text : List ℕ) (place : ℕ) : Type 0 where
  pub tokens : List Placed
  pub spelled : Spells 0 text tokens
  pub grammar : IsText (tokens_of tokens)
  pub numbers : AllFit (tokens_of tokens)
  pub first : IsWrongPlayer IsBefore tokens place
