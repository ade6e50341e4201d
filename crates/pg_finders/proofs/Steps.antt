-- The number of different priorities, which is less where a set leaves out all vertices of one; and the most steps, which grow in both numbers.
use Rattle.pg_finders.proofs.Common.{◌≡◌, ◌≢◌, ◌+◌, ◌*◌, ◌<◌, ◌≤◌, ℕ, zero, suc, Bool, true, false, ◌||◌, ◌⊎◌, inl, inr, List, [], ◌∷◌, length, refl, sym, ◌∙◌}
use Rattle.pg_finders.proofs.Common.{ap, subst, arith, cases_lt, or_cases, or_left, or_right, or_parts, eqb-true, eq-eqb, false_from_ne_true, mul-le-mul_left}
use Rattle.pg_finders.proofs.Common.{Graph, VertexSet, In, Within, priority_of, priority_count, steps, steps_after}
use Rattle.std.specs.Prelude.{nat_eq, cond, ◌^◌}
use Rattle.std.specs.List.{AllByRecursion, IsDistinct}
use Rattle.std.specs.Set.{is_member, unique_keys}
use Rattle.std.specs.Cmp.{nat_eq_equiv}
use Rattle.std.proofs.Math.Nat.{one-le-pow, pow-le-pow_left, pow-succ', suc-mul}
use Rattle.std.proofs.lemmas.Map.Keys.{IsDistinct-cons}
use Rattle.std.proofs.lemmas.Map.Made.{length-le_from_is_member}
use Rattle.pg_finders.specs.Steps.{priorities_below}
use Rattle.pg_finders.proofs.Sets.{no_both}

apart : (x : ℕ) (ys : List ℕ) → is_member nat_eq ys x ≡ false → AllByRecursion (λ y. nat_eq x y ≡ false) ys
apart x [] h = tt
apart x (y ∷ ys) h = let b = or_parts (nat_eq x y) (is_member nat_eq ys x) h in (b.0, apart x ys b.1)

-- a list has the same numbers without those that come again
unique_has : (xs : List ℕ) (q : ℕ) → is_member nat_eq (unique_keys nat_eq xs) q ≡ is_member nat_eq xs q
unique_has [] q = refl
unique_has (x ∷ xs) q = go (is_member nat_eq xs x) refl (nat_eq q x) refl (unique_has xs q)
  where
    go : (b : Bool) → is_member nat_eq xs x ≡ b → (c : Bool) → nat_eq q x ≡ c → is_member nat_eq (unique_keys nat_eq xs) q ≡ is_member nat_eq xs q
        → is_member nat_eq (cond b (unique_keys nat_eq xs) (x ∷ unique_keys nat_eq xs)) q ≡ (nat_eq q x || is_member nat_eq xs q)
    go true m true e h = h ∙ (ap (is_member nat_eq xs) (eqb-true q x e) ∙ (m ∙ rw e refl))
    go true m false e h = h ∙ rw e refl
    go false m c e h = ap (λ b. nat_eq q x || b) h

unique_once : (xs : List ℕ) → IsDistinct nat_eq (unique_keys nat_eq xs)
unfolding IsDistinct
unique_once [] = tt
unique_once (x ∷ xs) = go (is_member nat_eq xs x) refl (unique_once xs)
  where
    go : (b : Bool) → is_member nat_eq xs x ≡ b → IsDistinct nat_eq (unique_keys nat_eq xs)
        → IsDistinct nat_eq (cond b (unique_keys nat_eq xs) (x ∷ unique_keys nat_eq xs))
    go true m h = h
    go false m h = IsDistinct-cons nat_eq x (unique_keys nat_eq xs) (apart x (unique_keys nat_eq xs) (unique_has xs x ∙ m)) h

-- the priorities of a set are those of its vertices
has_priority : (g : Graph) (U : VertexSet) (n v : ℕ) → In U v → v < n → is_member nat_eq (priorities_below g U n) (priority_of g v) ≡ true
has_priority g U zero v i l = absurd (omega (arith, l))
has_priority g U (suc n) v i l = go (U n) refl (cases_lt v n) (has_priority g U n v i)
  where
    go : (b : Bool) → U n ≡ b → (v < n) ⊎ (n ≤ v) → (v < n → is_member nat_eq (priorities_below g U n) (priority_of g v) ≡ true)
        → is_member nat_eq (cond b (priority_of g n ∷ priorities_below g U n) (priorities_below g U n)) (priority_of g v) ≡ true
    go true e (inl m) h = or_right (nat_eq (priority_of g v) (priority_of g n)) (is_member nat_eq (priorities_below g U n) (priority_of g v)) (h m)
    go false e (inl m) h = h m
    go true e (inr m) h =
        let last : v ≡ n = omega (arith, l, m) in
        or_left (nat_eq (priority_of g v) (priority_of g n)) (is_member nat_eq (priorities_below g U n) (priority_of g v))
        (eq-eqb (priority_of g v) (priority_of g n) (ap (priority_of g) last))
    go false e (inr m) h = let last : n ≡ v = omega (arith, l, m) in absurd (no_both i (subst (λ u. U u ≡ false) last e))

of_vertex : (g : Graph) (U : VertexSet) (n q : ℕ) → is_member nat_eq (priorities_below g U n) q ≡ true → (v : ℕ) × (v < n) × In U v × (q ≡ priority_of g v)
of_vertex g U zero q m = absurd (cc m)
of_vertex g U (suc n) q m = go (U n) refl (of_vertex g U n q) m
  where
    earlier : ((v : ℕ) × (v < n) × In U v × (q ≡ priority_of g v)) → (v : ℕ) × (v < suc n) × In U v × (q ≡ priority_of g v)
    earlier (v, l, i, e) = (v, omega (arith, l), i, e)

    go : (b : Bool) → U n ≡ b → (is_member nat_eq (priorities_below g U n) q ≡ true → (v : ℕ) × (v < n) × In U v × (q ≡ priority_of g v))
        → is_member nat_eq (cond b (priority_of g n ∷ priorities_below g U n) (priorities_below g U n)) q ≡ true
        → (v : ℕ) × (v < suc n) × In U v × (q ≡ priority_of g v)
    go true e h m = elim (or_cases (nat_eq q (priority_of g n)) (is_member nat_eq (priorities_below g U n) q) m) [
      | inl y ↦ (n, omega arith, e, eqb-true q (priority_of g n) y)
      | inr y ↦ earlier (h y)
    ]
    go false e h m = earlier (h m)

module _ (g : Graph) {L U : VertexSet} (within : Within L U) where
  shared : (q : ℕ) → is_member nat_eq (priorities_below g L (length g)) q ≡ true → is_member nat_eq (priorities_below g U (length g)) q ≡ true
  shared q m =
      let h = of_vertex g L (length g) q m in
      subst (λ r. is_member nat_eq (priorities_below g U (length g)) r ≡ true) (sym h.3) (has_priority g U (length g) h.0 (within h.0 h.2) h.1)

  -- fewer vertices have no more priorities
  pub count_grow : priority_count g L ≤ priority_count g U
  count_grow =
      let L' = priorities_below g L (length g) in
      let U' = priorities_below g U (length g) in
      length-le_from_is_member nat_eq_equiv (unique_keys nat_eq L') (unique_keys nat_eq U') (unique_once L')
      (λ q m. unique_has U' q ∙ shared q (sym (unique_has L' q) ∙ m))

  -- and fewer where one of the others has a priority that they have not
  pub count_more : (t : ℕ) → t < length g → In U t → ((v : ℕ) → In L v → priority_of g v ≢ priority_of g t) → priority_count g L + 1 ≤ priority_count g U
  count_more t l i other =
      let L' = priorities_below g L (length g) in
      let U' = priorities_below g U (length g) in
      let p = priority_of g t in
      let fresh : is_member nat_eq L' p ≡ false = false_from_ne_true (is_member nat_eq L' p) (λ m.
      (let h = of_vertex g L (length g) p m in absurd (other h.0 h.2 (sym h.3)))) in
      let more = length-le_from_is_member nat_eq_equiv (p ∷ unique_keys nat_eq L') (unique_keys nat_eq U')
      (IsDistinct-cons nat_eq p (unique_keys nat_eq L') (apart p (unique_keys nat_eq L') (unique_has L' p ∙ fresh)) (unique_once L'))
      (λ q m. unique_has U' q ∙ elim (or_cases (nat_eq q p) (is_member nat_eq (unique_keys nat_eq L') q) m) [
        | inl y ↦ subst (λ r. is_member nat_eq U' r ≡ true) (sym (eqb-true q p y)) (has_priority g U (length g) t i l)
        | inr y ↦ shared q (sym (unique_has L' q) ∙ y)
      ]) in
      omega (arith, more)

pub steps_grow : (d e m n : ℕ) → d ≤ e → m ≤ n → steps d m ≤ steps e n
steps_grow zero zero m n k l = omega arith
steps_grow zero (suc e) m zero k l = omega arith
steps_grow zero (suc e) m (suc n) k l = omega arith
steps_grow (suc d) zero m n k l = absurd (omega (arith, k))
steps_grow (suc d) (suc e) zero zero k l = omega arith
steps_grow (suc d) (suc e) zero (suc n) k l = omega arith
steps_grow (suc d) (suc e) (suc m) zero k l = absurd (omega (arith, l))
steps_grow (suc d) (suc e) (suc m) (suc n) k l =
    let a = steps_grow d e m n (omega (arith, k)) (omega (arith, l)) in
    let b = steps_grow (suc d) (suc e) m n k (omega (arith, l)) in
    omega (arith, a, b)

pub steps_begin : (d e n m : ℕ) → d < e → m < n → steps d m + steps_after e n < steps e n
steps_begin d zero n m k l = absurd (omega (arith, k))
steps_begin d (suc e) zero m k l = absurd (omega (arith, l))
steps_begin d (suc e) (suc n) m k l = let h = steps_grow d e m n (omega (arith, k)) (omega (arith, l)) in omega (arith, h)

pub steps_finish : (d n m : ℕ) → m < n → steps d m < steps_after d n
steps_finish d zero m l = absurd (omega (arith, l))
steps_finish d (suc n) m l = let h = steps_grow d d m n (omega arith) (omega (arith, l)) in omega (arith, h)

-- at most three steps for each set of vertices, and for each choice of at most d of them
pub steps_exponential : (d n : ℕ) → steps d n + 2 ≤ 3 * 2 ^ n
steps_exponential zero zero = omega arith
steps_exponential zero (suc n) = let h = steps_exponential zero n in omega (arith, h)
steps_exponential (suc d) zero = omega arith
steps_exponential (suc d) (suc n) = let a = steps_exponential d n in let b = steps_exponential (suc d) n in omega (arith, a, b)

pub steps_polynomial : (d n : ℕ) → steps d n + 2 ≤ 3 * (n + 1) ^ d
steps_polynomial zero n = let h = one-le-pow 0 (n + 1) (omega arith) in omega (arith, h)
steps_polynomial (suc d) zero = let h = one-le-pow (suc d) (zero + 1) (omega arith) in omega (arith, h)
steps_polynomial (suc d) (suc n) =
    let fewer = steps_polynomial d n in
    let smaller = steps_polynomial (suc d) n in
    let small : (n + 1) ^ suc d ≡ (n + 1) * (n + 1) ^ d = pow-succ' (n + 1) d in
    let great : suc (n + 1) ^ suc d ≡ (n + 1) * suc (n + 1) ^ d + suc (n + 1) ^ d = pow-succ' (suc (n + 1)) d ∙ suc-mul (n + 1) (suc (n + 1) ^ d) in
    let power : (n + 1) ^ d ≤ suc (n + 1) ^ d = pow-le-pow_left (omega arith) d in
    let product = mul-le-mul_left (n + 1) power in
    let same : suc n + 1 ≡ suc (n + 1) = omega arith in
    rw same (omega (arith, fewer, smaller, small, great, power, product))
