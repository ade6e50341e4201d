-- How many different numbers a list has, and which vertex an identifier names: by rising lists.
use Rattle.pg_game.proofs.Common.{◌≡◌, ◌≢◌, ℕ, zero, suc, add-one, ◌+◌, ◌<◌, ◌≤◌, Bool, true, false, inl, inr, List, [], ◌∷◌, length, get_or, refl, sym}
use Rattle.pg_game.proofs.Common.{◌∙◌, ap, subst}
use Rattle.pg_game.proofs.Common.{arith, rules, ◌==◌, nat_lt, count_by, Contains, list_any, IsStrictlyIncreasing, eqb-true, eq-eqb, false_from_ne_true, le-ltb}
use Rattle.pg_game.proofs.Common.{cases_Bool, get_or_default, sorted_from_strictly_increasing, below_from_sorted, different}
use Rattle.std.proofs.Common.{not, ◌↔◌, lt-ltb}
use Rattle.std.specs.List.{filter}
use Rattle.std.proofs.lemmas.List.Sums.{length-filter}
use Rattle.std.proofs.lemmas.List.Kept.{IsStrictlyIncreasing-filter}
use Rattle.pg_game.proofs.Members.{Contains-nil, Contains-head, Contains-tail, Contains-cons}
use Rattle.pg_game.proofs.Gathered.{any_from, none_from}

pub rising_tail : (y : ℕ) (ys : List ℕ) → IsStrictlyIncreasing (y ∷ ys) → IsStrictlyIncreasing ys
rising_tail y ys up k l = below_from_sorted (y ∷ ys) (suc k) (suc (k + 1)) 0 (sorted_from_strictly_increasing (y ∷ ys) up) (omega arith) (omega arith)

-- the first of a rising list is below each other
pub below_first : (y : ℕ) (ys : List ℕ) → IsStrictlyIncreasing (y ∷ ys) → (x : ℕ) → Contains ys x → y < x
below_first y ys up x (k, l, e) =
    let h : y < get_or ys k 0 = below_from_sorted (y ∷ ys) 0 (suc k) 0 (sorted_from_strictly_increasing (y ∷ ys) up) (omega arith) (omega arith) in
    let q : get_or ys k 0 ≡ x = get_or_default ys k 0 x l ∙ e in
    omega arith

-- a rising list without one of its members
abbrev without_one : ℕ → List ℕ → List ℕ
without_one n ys = filter (λ y. not (y == n)) ys

keep_all : (n : ℕ) (ys : List ℕ) → (Contains ys n → ⊥) → without_one n ys ≡ ys
keep_all n [] none = refl
keep_all n (y ∷ ys) none = search (rules, keep_all n ys (λ m. none (Contains-tail y n ys m)), false_from_ne_true, eqb-true)

length-without_one : (n : ℕ) (ys : List ℕ) → IsStrictlyIncreasing ys → Contains ys n → length (without_one n ys) + 1 ≡ length ys
length-without_one n [] up m = absurd (Contains-nil n m)
length-without_one n (y ∷ ys) up m = elim (cases_Bool (y == n)) [
  | inl e ↦ (let none : Contains ys n → ⊥ = λ k. (let l = below_first y ys up n k in omega (arith, l, eqb-true y n e)) in
      rw e (omega (arith, ap (λ (zs : List ℕ). length zs) (keep_all n ys none))))
  | inr e ↦ elim (Contains-cons y n ys m) [
    | inl q ↦ absurd (let t : (y == n) ≡ true = eq-eqb y n q in cc (t, e))
    | inr k ↦ rw e (omega (arith, length-without_one n ys (rising_tail y ys up) k))
  ]
]

contains-without : (n : ℕ) (ys : List ℕ) (x : ℕ) → Contains (without_one n ys) x ↔ (Contains ys x × (x ≢ n))
contains-without n [] x = (λ m. absurd (Contains-nil x m), λ h. absurd (Contains-nil x h.0))
contains-without n (y ∷ ys) x = let h = contains-without n ys x in elim (cases_Bool (y == n)) [
  | inl e ↦ rw e (
    λ m. (let k = h.0 m in (Contains-tail y x ys k.0, k.1)),
    λ k. elim (Contains-cons y x ys k.0) [
      | inl q ↦ absurd (k.1 (sym q ∙ eqb-true y n e))
      | inr t ↦ h.1 (t, k.1)
    ],
  )
  | inr e ↦ rw e (
    λ m. elim (Contains-cons y x (without_one n ys) m) [
      | inl q ↦ (subst (λ (z : ℕ). Contains (y ∷ ys) z) q (Contains-head y ys), λ z. (let t : (y == n) ≡ true = eq-eqb y n (q ∙ z) in cc (t, e)))
      | inr t ↦ (let k = h.0 t in (Contains-tail y x ys k.0, k.1))
    ],
    λ k. elim (Contains-cons y x ys k.0) [
      | inl q ↦ subst (λ (z : ℕ). Contains (y ∷ without_one n ys) z) q (Contains-head y (without_one n ys))
      | inr t ↦ Contains-tail y x (without_one n ys) (h.1 (t, k.1))
    ],
  )
]

-- a rising list with the same members tells how many there are
pub different_is : (xs ys : List ℕ) → IsStrictlyIncreasing ys → ((x : ℕ) → Contains xs x ↔ Contains ys x) → different xs ≡ length ys
different_is [] [] up same = refl
different_is [] (y ∷ ys) up same = absurd (Contains-nil y ((same y).1 (Contains-head y ys)))
different_is (n ∷ ns) ys up same = elim (cases_Bool (list_any (λ m. m == n) ns)) [
  | inl e ↦ (let back : (x : ℕ) → Contains ys x → Contains ns x = λ x m. elim (Contains-cons n x ns ((same x).1 m)) [
    | inl q ↦ subst (λ (z : ℕ). Contains ns z) q (any_from ns n e)
    | inr k ↦ k
  ] in
      rw e (different_is ns ys up (λ x. (λ m. (same x).0 (Contains-tail n x ns m), back x))))
  | inr e ↦ (let size = length-without_one n ys up ((same n).0 (Contains-head n ns)) in
      let rest = different_is ns (without_one n ys) (IsStrictlyIncreasing-filter (λ y. not (y == n)) ys up) (λ x. (
        λ m. (contains-without n ys x).1 ((same x).0 (Contains-tail n x ns m), λ q. none_from ns n e (subst (λ (z : ℕ). Contains ns z) q m)),
        λ m. (let k = (contains-without n ys x).0 m in elim (Contains-cons n x ns ((same x).1 k.0)) [ inl q ↦ absurd (k.1 (sym q)) | inr t ↦ t ]),
      )) in
      rw e (omega (arith, rest, size)))
]

filter_none : (p : ℕ → Bool) (xs : List ℕ) → ((y : ℕ) → Contains xs y → p y ≡ false) → filter p xs ≡ []
filter_none p [] none = refl
filter_none p (x ∷ xs) none = rw (none x (Contains-head x xs)) (filter_none p xs (λ y m. none y (Contains-tail x y xs m)))

smaller : (xs : List ℕ) (i : ℕ) → IsStrictlyIncreasing xs → i < length xs → length (filter (λ x. nat_lt x (get_or xs i 0)) xs) ≡ i
smaller [] i up l = absurd (omega arith)
smaller (x ∷ xs) zero up l =
    let f = le-ltb x x (omega arith) in
    let e = filter_none (λ y. nat_lt y x) xs (λ y m. let h = below_first x xs up y m in le-ltb y x (omega arith)) in
    rw (f, e) refl
smaller (x ∷ xs) (suc i) up l =
    let h : x < get_or xs i 0 = below_from_sorted (x ∷ xs) 0 (suc i) 0 (sorted_from_strictly_increasing (x ∷ xs) up) (omega arith) l in
    rw (lt-ltb x (get_or xs i 0) h, smaller xs i (rising_tail x xs up) (omega arith)) refl

-- in a rising list as many numbers are smaller than a member as are before it
pub smaller_before : (xs : List ℕ) (i : ℕ) → IsStrictlyIncreasing xs → i < length xs → count_by (λ x. nat_lt x (get_or xs i 0)) xs ≡ i
smaller_before xs i up l = sym (length-filter (λ x. nat_lt x (get_or xs i 0)) xs) ∙ smaller xs i up l

-- no more than all of them
pub different_most : (xs : List ℕ) → different xs ≤ length xs
different_most [] = omega arith
different_most (n ∷ ns) = search (rules, different_most ns, cases_Bool)

-- a number of a rising list is no less than its place
at_least : (xs : List ℕ) → IsStrictlyIncreasing xs → (k : ℕ) → k < length xs → k ≤ get_or xs k 0
at_least xs up zero l = omega arith
at_least xs up (suc k) l =
    let h = at_least xs up k (omega arith) in
    let r = up k (omega arith) in
    omega (arith, h, r, ap (λ (j : ℕ). get_or xs j 0) (add-one k))

-- so a rising list of numbers below a bound is no longer than that
pub rising_most : (xs : List ℕ) (n : ℕ) → IsStrictlyIncreasing xs → ((k : ℕ) → k < length xs → get_or xs k 0 < n) → length xs ≤ n
rising_most [] n up below = omega arith
rising_most (x ∷ xs) n up below =
    let h = at_least (x ∷ xs) up (length xs) (omega arith) in
    let b = below (length xs) (omega arith) in
    omega (arith, h, b)
