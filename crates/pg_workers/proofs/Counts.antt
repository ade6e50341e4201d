-- Sums and counts over lists, of which one element is changed or has all.
use Rattle.std.specs.List.{range_with_len}
use Rattle.std.proofs.lemmas.List.{map-id}
use Rattle.std.proofs.lemmas.List.FromFn.{map-range_with_len_more}
use Rattle.pg_workers.proofs.Common.{◌++◌, ◌∙◌, map-append}
use Rattle.pg_workers.proofs.Common.{rules, ◌≡◌, ℕ, zero, suc, ◌+◌, ◌≤◌, List, [], ◌∷◌, map, set, refl, sym, ap, arith, common_steps, ◌==◌, if◌then◌else◌, some}
use Rattle.pg_workers.proofs.Common.{sum_by, nat_tests, sum_by-cons, some-injective, some-ne-none, get_elem?, once_below}

module _ {X : Type 0} where
  -- the sum after a change of one
  pub sum_by-set_at : (f : X → ℕ) (xs : List X) (i : ℕ) (x y : X) → get_elem? xs i ≡ some x → sum_by f (set xs i y) + f x ≡ sum_by f xs + f y
  sum_by-set_at f [] i x y e = absurd (some-ne-none x (sym e))
  sum_by-set_at f (z ∷ zs) zero x y e =
      let h = ap f (some-injective _ _ e) in let a = sum_by-cons f y zs in let b = sum_by-cons f z zs in omega arith
  sum_by-set_at f (z ∷ zs) (suc i) x y e = grind (arith, sum_by-set_at f zs i x y e, sum_by-cons)

  pub sum_by-at : (f : X → ℕ) (xs : List X) (i : ℕ) (x : X) → get_elem? xs i ≡ some x → f x ≤ sum_by f xs
  sum_by-at f [] i x e = absurd (some-ne-none x (sym e))
  sum_by-at f (z ∷ zs) zero x e = let h = ap f (some-injective _ _ e) in let b = sum_by-cons f z zs in omega arith
  sum_by-at f (z ∷ zs) (suc i) x e = let h = sum_by-at f zs i x e in let b = sum_by-cons f z zs in omega arith

  pub sum_by-le_each : (f g : X → ℕ) (xs : List X) → ((i : ℕ) (x : X) → get_elem? xs i ≡ some x → f x ≤ g x) → sum_by f xs ≤ sum_by g xs
  sum_by-le_each f g [] h = omega arith
  sum_by-le_each f g (x ∷ xs) h =
      let a = h 0 x refl in search (rules, sum_by-le_each f g xs (λ i y e. h (suc i) y e), sum_by-cons)

  none_left : (f g : X → ℕ) (xs : List X) → sum_by g xs ≡ 0 → ((i : ℕ) (x : X) → get_elem? xs i ≡ some x → g x ≡ 0 → f x ≡ 0)
      → sum_by f xs ≡ 0
  none_left f g [] e h = omega arith
  none_left f g (x ∷ xs) e h =
      let c = sum_by-cons f x xs in let d = sum_by-cons g x xs in
      let a : f x ≡ 0 = h 0 x refl (omega arith) in
      let b = none_left f g xs (omega arith) (λ i y e'. h (suc i) y e') in omega arith

  -- where one has all of g, and f is 0 where g is, it has all of f
  pub alone : (f g : X → ℕ) (xs : List X) (i : ℕ) (x : X) → get_elem? xs i ≡ some x → sum_by g xs ≡ g x
      → ((j : ℕ) (y : X) → get_elem? xs j ≡ some y → g y ≡ 0 → f y ≡ 0) → sum_by f xs ≡ f x
  alone f g [] i x at e h = absurd (some-ne-none x (sym at))
  alone f g (z ∷ zs) zero x at e h =
      let same = some-injective _ _ at in
      let a = ap f same in let b = ap g same in
      let k = sum_by-cons f z zs in let l = sum_by-cons g z zs in
      let c = none_left f g zs (omega arith) (λ j y e'. h (suc j) y e') in omega arith
  alone f g (z ∷ zs) (suc i) x at e h =
      let k = sum_by-cons f z zs in let l = sum_by-cons g z zs in let t = sum_by-at g zs i x at in
      let a : f z ≡ 0 = h 0 z refl (omega arith) in
      let b = alone f g zs i x at (omega arith) (λ j y e'. h (suc j) y e') in omega arith

pub sum_by-of_map : {X Y : Type 0} (f : Y → ℕ) (g : X → Y) (xs : List X) → sum_by f (map g xs) ≡ sum_by (λ x. f (g x)) xs
sum_by-of_map f g [] = refl
sum_by-of_map f g (x ∷ xs) = grind (arith, common_steps, sum_by-of_map f g xs, sum_by-cons)

pub once_more : (x n : ℕ) → once_below x (n + 1) ≡ once_below x n + (if n == x then 1 else 0)
once_more x n = grind (arith, nat_tests)

pub once_none : (x : ℕ) → once_below x 0 ≡ 0
once_none x = grind (arith, nat_tests)

-- one number more is the next
pub numbers_more : {X : Type 0} (f : X → ℕ) (xs ys : List X) (x : X) (n m : ℕ) → map f xs ≡ range_with_len 1 n → ys ≡ xs ++ x ∷ [] → f x ≡ n + 1
    → m ≡ n + 1 → map f ys ≡ range_with_len 1 m
numbers_more f xs ys x n m is more e long =
    let step : range_with_len 1 (n + 1) ≡ range_with_len 1 n ++ (1 + n) ∷ [] =
    sym (map-id (range_with_len 1 (n + 1))) ∙ map-range_with_len_more (λ (k : ℕ). k) 1 n (1 + n) refl ∙ ap (λ (l : List ℕ). l ++ (1 + n) ∷ []) (map-id (range_with_len 1 n)) in
    let last : f x ≡ 1 + n = omega (arith, e) in
    ap (map f) more ∙ map-append f xs (x ∷ []) ∙ ap (λ (l : List ℕ). l ++ f x ∷ []) is ∙ ap (λ (k : ℕ). range_with_len 1 n ++ k ∷ []) last ∙ sym step ∙ ap (range_with_len 1) (sym long)
