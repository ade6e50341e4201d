-- Places of identifiers in a rising list of them.
use Rattle.pg_game.proofs.Common.{◌≡◌, ℕ, ◌<◌, ◌⊎◌, true, false, List, length, get_or, nat_eq, rules, arith, Some, None, position, IsStrictlyIncreasing}
use Rattle.pg_game.proofs.Common.{eqb-true, eq-eqb, ltb-false, cases_Bool, list_any, false_from_ne_true, get_or_default, ◌∙◌}
use Rattle.pg_game.proofs.Common.{sorted_from_strictly_increasing, below_from_sorted}
use Rattle.std.specs.Cmp.{nat_eq_equiv}
use Rattle.std.proofs.lemmas.List.Sums.{fails_before_first}
use Rattle.std.proofs.lemmas.List.Quantifiers.{position-Some}
use Rattle.std.proofs.lemmas.Map.Views.{Contains-from_any, list_any-from_Contains}

pub rises : (xs : List ℕ) → IsStrictlyIncreasing xs → (i j : ℕ) → i < j → j < length xs → get_or xs i 0 < get_or xs j 0
rises xs up i j l m = below_from_sorted xs i j 0 (sorted_from_strictly_increasing xs up) l m

pub order : (p q : ℕ) → (p < q) ⊎ ((p ≡ q) ⊎ (q < p))
order p q = grind arith

pub same_place : (xs : List ℕ) → IsStrictlyIncreasing xs → (p q : ℕ) → p < length xs → q < length xs → get_or xs p 0 ≡ get_or xs q 0 → p ≡ q
same_place xs up p q lp lq e = search (rules, order, rises)

-- the place of a number, if it is in the list
abbrev pub Stands : List ℕ → ℕ → Type 0
Stands keys x =
    ((p : ℕ) × (position (nat_eq x) keys ≡ Some p) × (p < length keys) × (get_or keys p 0 ≡ x))
    ⊎ ((position (nat_eq x) keys ≡ None) × ((v : ℕ) → v < length keys → get_or keys v 0 ≡ x → ⊥))

pub stands : (keys : List ℕ) (x : ℕ) → Stands keys x
stands keys x = search (rules, nat_eq, cases_Bool, position-Some, eqb-true, ltb-false, fails_before_first, eq-eqb)

-- whether a number has a place is whether it is among them
pub among : (keys : List ℕ) (x : ℕ) (v : ℕ) → v < length keys → get_or keys v 0 ≡ x → list_any (nat_eq x) keys ≡ true
among keys x v l e = list_any-from_Contains nat_eq_equiv x keys (v, l, get_or_default keys v x 0 l ∙ e)

pub not_among : (keys : List ℕ) (x : ℕ) → ((v : ℕ) → v < length keys → get_or keys v 0 ≡ x → ⊥) → list_any (nat_eq x) keys ≡ false
not_among keys x none = false_from_ne_true _ (λ t. let m = Contains-from_any (λ y z. eqb-true y z) x keys t in none m.0 m.1 (get_or_default keys m.0 0 x m.1
    ∙ m.2))

pub stood : (keys : List ℕ) (x p : ℕ) → position (nat_eq x) keys ≡ Some p → (p < length keys) × (get_or keys p 0 ≡ x)
stood keys x p is = search (rules, stands)
