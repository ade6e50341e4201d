-- Numerals, digit by digit: they are the library's decimals where these are whole, and they spell their numbers.
use Rattle.pg_text.proofs.Common.{rules}
use Rattle.pg_text.proofs.Common.{◌≡◌, ℕ, zero, suc, ◌+◌, ◌^◌, ◌<◌, ◌≤◌, List, [], ◌∷◌, ◌++◌, length, map, refl, sym, ◌∙◌, ap, subst, arith, inl, inr}
use Rattle.pg_text.proofs.Common.{cases_lt, nat_tests, length-append, map-append, AllAre, is_digit, value_of, numeral}
use Rattle.std.proofs.Common.{◌/◌, ◌%◌}
use Rattle.std.specs.Prelude.{decimal}
use Rattle.std.specs.Int.Digits.{digits_of}
use Rattle.std.proofs.lemmas.Fmt.{decimal_by_steps_wide}
use Rattle.std.proofs.lemmas.Int.Digits.{digits_of_step}
use Rattle.pg_text.proofs.lexer.ByteRuns.{AllAre-append, value-push}

-- the numeral of a number that is not zero
by_digits : (n : ℕ) → 0 < n → numeral n ≡ map (λ d. 48 + d) (digits_of 10 n)
unfolding numeral
by_digits zero h = absurd (omega arith)
by_digits (suc n) h = refl

-- that of a number below ten is one digit
pub one_digit : (n : ℕ) → n < 10 → numeral n ≡ (48 + n) ∷ []
unfolding numeral
one_digit zero h = refl
one_digit (suc n) h =
    let z : suc n / 10 ≡ 0 = omega arith in
    let e : suc n % 10 ≡ suc n = omega arith in
    ap (map (λ d. 48 + d)) (digits_of_step 10 (suc n) (omega arith) (omega arith)
    ∙ ap (λ (m : ℕ). digits_of 10 m ++ suc n % 10 ∷ []) z ∙ ap (λ (d : ℕ). d ∷ []) e)

-- that of another is the numeral of a tenth of it, and then its last digit
pub more_digits : (n : ℕ) → 10 ≤ n → numeral n ≡ numeral (n / 10) ++ (48 + n % 10) ∷ []
more_digits n h = search (rules, by_digits, digits_of_step, map-append)

-- what holds of one digit, and of more digits with one after them, holds of each numeral
module _ (P : ℕ → List ℕ → Type 0) (one : (n : ℕ) → n < 10 → P n ((48 + n) ∷ []))
    (more : (n : ℕ) (ds : List ℕ) → 10 ≤ n → P (n / 10) ds → P n (ds ++ (48 + n % 10) ∷ [])) where
  up_to : (k n : ℕ) → n ≤ k → P n (numeral n)
  up_to zero n h = subst (P n) (sym (one_digit n (omega arith))) (one n (omega arith))
  up_to (suc k) n h = elim (cases_lt n 10) [
    | inl l ↦ subst (P n) (sym (one_digit n l)) (one n l)
    | inr l ↦ subst (P n) (sym (more_digits n l)) (more n (numeral (n / 10)) l (up_to k (n / 10) (omega arith)))
  ]

  pub numeral_by_steps : (n : ℕ) → P n (numeral n)
  numeral_by_steps n = up_to n n (omega arith)

-- the library's decimal, which has at most 64 digits
pub decimal_is_numeral : (n : ℕ) → n < 10 ^ 64 → decimal n ≡ numeral n
decimal_is_numeral = decimal_by_steps_wide (λ m ds. ds ≡ numeral m) (λ m l. sym (one_digit m l))
    (λ m ds l e. ap (λ (xs : List ℕ). xs ++ (48 + m % 10) ∷ []) e ∙ sym (more_digits m l))

-- the bytes are digits, and this number is their value
abbrev pub IsNumeral : ℕ → List ℕ → Type 0
IsNumeral n ds = (0 < length ds) × AllAre is_digit ds × (n ≡ value_of ds)

pub numeral_spells : (n : ℕ) → IsNumeral n (numeral n)
numeral_spells = numeral_by_steps IsNumeral
    (λ m l. (omega arith, (grind (arith, nat_tests), tt), omega arith))
    (λ m ds l d.
    let r : m % 10 < 10 = omega arith in
    let e = value-push ds (48 + m % 10) in
    let f = d.2 in
    let g = length-append ds ((48 + m % 10) ∷ []) in
    (omega arith, AllAre-append is_digit ds ((48 + m % 10) ∷ []) d.1 (grind (arith, nat_tests), tt), omega arith))

-- a number below ten to the k has at most k digits
pub length-numeral : (k n : ℕ) → 0 < k → n < 10 ^ k → length (numeral n) ≤ k
length-numeral k n some fits = numeral_by_steps (λ m ds. (j : ℕ) → 0 < j → m < 10 ^ j → length ds ≤ j) (λ m l j a b. omega arith) more n k some fits
  where
    more : (m : ℕ) (ds : List ℕ) → 10 ≤ m → ((j : ℕ) → 0 < j → m / 10 < 10 ^ j → length ds ≤ j) → (j : ℕ) → 0 < j → m < 10 ^ j
        → length (ds ++ (48 + m % 10) ∷ []) ≤ j
    more m ds l h zero a b = absurd (omega arith)
    more m ds l h (suc zero) a b = absurd (omega arith)
    more m ds l h (suc (suc j)) a b = omega (arith, length-append ds ((48 + m % 10) ∷ []), h (suc j) (omega arith) (omega arith))
