-- The bytes of texts: which of them are blanks, digits, letters and quotes, and runs of them.
use Rattle.std.specs.Prelude.{ℕ, ◌≡◌, ◌-◌, ◌+◌, ◌*◌, ◌==◌, ◌&&◌, ◌||◌, Bool, true, false, not, nat_le, List, [], ◌∷◌, fold, ⊤}
use Rattle.std.specs.List.{AllByRecursion}

-- space, tab, carriage return, line feed
abbrev pub is_blank : ℕ → Bool
is_blank b = b == 32 || b == 9 || b == 13 || b == 10

abbrev pub is_digit : ℕ → Bool
is_digit b = nat_le 48 b && nat_le b 57

abbrev pub is_letter : ℕ → Bool
is_letter b = (nat_le 65 b && nat_le b 90) || (nat_le 97 b && nat_le b 122)

abbrev pub is_quote : ℕ → Bool
is_quote b = b == 34

-- no quote
abbrev pub is_no_quote : ℕ → Bool
is_no_quote b = not (is_quote b)

-- a token can begin with the byte
abbrev pub begins_token : ℕ → Bool
begins_token b = is_digit b || is_letter b || is_quote b || b == 44 || b == 59

-- each byte passes the test
abbrev pub AllAre : (ℕ → Bool) → List ℕ → Type 0
AllAre test bytes = AllByRecursion (λ b. test b ≡ true) bytes

-- the bytes are none, or the first of them fails the test
abbrev pub EndsRun : (ℕ → Bool) → List ℕ → Type 0
EndsRun test [] = ⊤
EndsRun test (b ∷ bytes) = test b ≡ false

-- the number that digits spell, the first of them the highest
abbrev pub value_of : List ℕ → ℕ
value_of digits = fold (λ n d. 10 * n + (d - 48)) 0 digits
