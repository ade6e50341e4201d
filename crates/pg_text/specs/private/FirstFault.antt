-- The first faults among the tokens read so far, as the private readers know them.
use Rattle.std.specs.Prelude.{ℕ, Bool, true, false, nat_lt, List, Option, Some, None}
use Rattle.pg_text.specs.declared.reader.State.{State}
use Rattle.pg_text.specs.declared.reader.State.TheVariants as state
use Rattle.pg_text.specs.Token.{Token, Placed, tokens_of}
use Rattle.pg_text.specs.Fault.{AllFit, IsFirstLarge, IsWrongPlayer}

abbrev pub placed : Token → ℕ → Placed
placed t from = record { token = t; place = from }

-- the first of the faults, where one may be known and another is found
abbrev pub first_at : Option ℕ → Bool → ℕ → Option ℕ
first_at None true place = Some place
first_at None false place = None
first_at (Some p) b place = Some p

-- the value is above 1, where the state follows a player
abbrev pub wrong_in : State → ℕ → Bool
wrong_in state.Player value = nat_lt 1 value
wrong_in s value = false

-- the first number above the limit, if there is one
abbrev pub FirstLarge : List Placed → Option ℕ → Type 0
FirstLarge ts None = AllFit (tokens_of ts)
FirstLarge ts (Some p) = IsFirstLarge ts p

-- the first player above 1, where one is known
abbrev pub FirstPlayer : (List Token → Type 0) → List Placed → Option ℕ → Type 0
FirstPlayer IsBefore ts None = Unit {0}
FirstPlayer IsBefore ts (Some p) = IsWrongPlayer IsBefore ts p
