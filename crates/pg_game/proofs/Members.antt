-- Membership in a list, by cases on the list; a search in a list.
use Rattle.pg_game.proofs.Common.{◌≡◌, ℕ, zero, suc, Bool, true, false, ◌⊎◌, inl, inr, List, [], ◌∷◌, refl, subst, arith, rules, Contains}
use Rattle.pg_game.proofs.Common.{nat_eq, eqb-true, eq-eqb}

pub Contains-nil : (w : ℕ) → Contains [] w → ⊥
Contains-nil w (k, lt, e) = omega arith

pub Contains-head : (x : ℕ) (xs : List ℕ) → Contains (x ∷ xs) x
Contains-head x xs = (zero, omega arith, refl)

pub Contains-tail : (x w : ℕ) (xs : List ℕ) → Contains xs w → Contains (x ∷ xs) w
Contains-tail x w xs (k, lt, e) = (suc k, omega arith, e)

pub Contains-cons : {A : Type 0} (x w : A) (xs : List A) → Contains (x ∷ xs) w → (x ≡ w) ⊎ Contains xs w
Contains-cons x w xs x3 = search (rules)

pub Contains-one : (x w : ℕ) → Contains (x ∷ []) w → x ≡ w
Contains-one x w h = elim (Contains-cons x w [] h) [ inl e ↦ e | inr m ↦ absurd (Contains-nil w m) ]

abbrev pub SomeOrNone : (ℕ → Bool) → List ℕ → Type 0
SomeOrNone test ws = ((w : ℕ) × Contains ws w × (test w ≡ true)) ⊎ ((w : ℕ) → Contains ws w → test w ≡ false)

some_or_none-cons : (test : ℕ → Bool) (x : ℕ) (xs : List ℕ) (b : Bool) → test x ≡ b → SomeOrNone test xs → SomeOrNone test (x ∷ xs)
some_or_none-cons test x xs true e rest = inl (x, Contains-head x xs, e)
some_or_none-cons test x xs false e (inl (w, m, t)) = inl (w, Contains-tail x w xs m, t)
some_or_none-cons test x xs false e (inr none) = inr (λ w m. elim (Contains-cons x w xs m) [ inl q ↦ rw (← q) e | inr later ↦ none w later ])

-- some member passes the test, or none does
pub some_or_none : (test : ℕ → Bool) (ws : List ℕ) → SomeOrNone test ws
some_or_none test [] = inr (λ w m. absurd (Contains-nil w m))
some_or_none test (x ∷ xs) = some_or_none-cons test x xs (test x) refl (some_or_none test xs)

-- a list has the number or does not
pub contains_or_not : (ws : List ℕ) (w : ℕ) → Contains ws w ⊎ (Contains ws w → ⊥)
contains_or_not ws w = elim (some_or_none (λ x. nat_eq x w) ws) [
  | inl (x, m, t) ↦ inl (subst (Contains ws) (eqb-true x w t) m)
  | inr none ↦ inr (λ m. let e : nat_eq w w ≡ true = eq-eqb w w refl in cc (e, none w m))
]
