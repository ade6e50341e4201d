-- What a filter leaves of a list of vertices.
use Rattle.pg_finders.proofs.Common.{◌≡◌, ℕ, ◌+◌, ◌<◌, Bool, true, false, inl, inr, List, [], ◌∷◌, ◌++◌, length, take, refl, sym, ◌∙◌, ap, subst, append-nil, ◌==◌}
use Rattle.pg_finders.proofs.Common.{eqb-true, cases_Bool, or_cases, or_left, or_right, false_from_ne_true, slice_index_or, In, listed, Once}
use Rattle.std.specs.List.{filter}
use Rattle.std.proofs.lemmas.List.{take_more}
use Rattle.std.proofs.lemmas.List.Elements.{filter-append}
use Rattle.std.proofs.lemmas.List.Elements.{All-filter}
use Rattle.std.proofs.lemmas.List.Sorted.{All-permutation}
use Rattle.std.specs.List.Sorted.{IsPermutation}
use Rattle.pg_finders.proofs.Common.{Graph, VertexSet, Within, Contains, Contains-get_or, IsNonDecreasingBy, AreVertices, IsOrder, priority_of, arith}
use Rattle.pg_finders.specs.declared.recursion.order.Order.{Order}
use Rattle.pg_finders.proofs.Sets.{no_both}
use Rattle.pg_finders.proofs.recursion.PlacedLists.{listed_at}
use Rattle.pg_finders.proofs.recursion.PriorityOrder.{all_stand, distinct_once, once_permutation}

-- what is listed and passes is left
pub filter_keeps : (f : ℕ → Bool) (xs : List ℕ) (v : ℕ) → In (listed xs) v → f v ≡ true → In (listed (filter f xs)) v
filter_keeps f [] v i e = i
filter_keeps f (x ∷ xs) v i e = elim (cases_Bool (f x)) [
  | inl y ↦ rw y (elim (or_cases (x == v) (listed xs v) i) [
    | inl q ↦ or_left (x == v) (listed (filter f xs) v) q
    | inr j ↦ or_right (x == v) (listed (filter f xs) v) (filter_keeps f xs v j e)
  ])
  | inr n ↦ rw n (elim (or_cases (x == v) (listed xs v) i) [
    | inl q ↦ absurd (no_both (subst (λ u. f u ≡ true) (sym (eqb-true x v q)) e) n)
    | inr j ↦ filter_keeps f xs v j e
  ])
]

-- and nothing else
pub filter_fewer : (f : ℕ → Bool) (xs : List ℕ) (v : ℕ) → In (listed (filter f xs)) v → In (listed xs) v
filter_fewer f [] v i = i
filter_fewer f (x ∷ xs) v i = elim (cases_Bool (f x)) [
  | inl y ↦ (let j : In (listed (x ∷ filter f xs)) v = rw y at i in elim (or_cases (x == v) (listed (filter f xs) v) j) [
    | inl q ↦ or_left (x == v) (listed xs v) q
    | inr k ↦ or_right (x == v) (listed xs v) (filter_fewer f xs v k)
  ])
  | inr n ↦ (let j : In (listed (filter f xs)) v = rw n at i in or_right (x == v) (listed xs v) (filter_fewer f xs v j))
]

-- and all that is left passes
pub filter_passed : (f : ℕ → Bool) (xs : List ℕ) (v : ℕ) → In (listed (filter f xs)) v → In (listed xs) v × (f v ≡ true)
filter_passed f xs v i = (filter_fewer f xs v i, passed xs i)
  where
    passed : (ys : List ℕ) → In (listed (filter f ys)) v → f v ≡ true
    passed [] j = absurd (cc j)
    passed (y ∷ ys) j = elim (cases_Bool (f y)) [
      | inl t ↦ (let k : In (listed (y ∷ filter f ys)) v = rw t at j in elim (or_cases (y == v) (listed (filter f ys) v) k) [
        | inl q ↦ subst (λ u. f u ≡ true) (eqb-true y v q) t
        | inr m ↦ passed ys m
      ])
      | inr n ↦ (let k : In (listed (filter f ys)) v = rw n at j in passed ys k)
    ]

pub filter_once : (f : ℕ → Bool) (xs : List ℕ) → Once xs → Once (filter f xs)
filter_once f [] o = tt
filter_once f (x ∷ xs) o = elim (cases_Bool (f x)) [
  | inl y ↦ rw y (false_from_ne_true (listed (filter f xs) x) (λ i. no_both (filter_fewer f xs x i) o.0), filter_once f xs o.1)
  | inr n ↦ rw n (filter_once f xs o.1)
]

-- one more passes, or does not
pub filter_takes : (f : ℕ → Bool) (xs : List ℕ) (i : ℕ) → i < length xs → f (slice_index_or xs i 0) ≡ true
    → filter f (take (i + 1) xs) ≡ filter f (take i xs) ++ slice_index_or xs i 0 ∷ []
filter_takes f xs i l y =
    ap (filter f) (take_more xs i 0 l) ∙ (filter-append f (take i xs) (slice_index_or xs i 0 ∷ []) ∙ ap (λ ys. filter f (take i xs) ++ ys) one)
  where
    one : filter f (slice_index_or xs i 0 ∷ []) ≡ slice_index_or xs i 0 ∷ []
    one = rw y refl

pub filter_passes : (f : ℕ → Bool) (xs : List ℕ) (i : ℕ) → i < length xs → f (slice_index_or xs i 0) ≡ false
    → filter f (take (i + 1) xs) ≡ filter f (take i xs)
filter_passes f xs i l n =
    ap (filter f) (take_more xs i 0 l) ∙ (filter-append f (take i xs) (slice_index_or xs i 0 ∷ []) ∙ (ap (λ ys. filter f (take i xs) ++ ys) none
    ∙ append-nil (filter f (take i xs))))
  where
    none : filter f (slice_index_or xs i 0 ∷ []) ≡ []
    none = rw n refl

contains_listed : (xs : List ℕ) (v : ℕ) → In (listed xs) v → Contains xs v
contains_listed xs v i = (let a = listed_at xs v i in subst (Contains xs) a.2 (Contains-get_or xs a.0 0 a.1))

-- those of a list, sorted, are an order
pub order_of_active : (g : Graph) (A : VertexSet) (xs : List ℕ) (order : Order) → AreVertices g xs → Once xs → Within A (listed xs)
    → IsPermutation (filter (λ v. A v) xs) order.vertices.items → IsNonDecreasingBy (priority_of g) order.vertices.items
    → order.upto ≡ length order.vertices.items → IsOrder g A order
order_of_active g A xs order right once within moved rising end = record {
  right = All-permutation (λ v. v < length g) (filter (λ v. A v) xs) order.vertices.items moved (All-filter (λ v. A v) (λ v. v < length g) xs right);
  rising = rising;
  distinct = distinct_once order.vertices.items (once_permutation (filter (λ v. A v) xs) order.vertices.items moved (filter_once (λ v. A v) xs once));
  upto = omega (arith, end);
  stand = λ v i. (
      let h = all_stand A (filter (λ u. A u) xs) order.vertices.items (λ u j. contains_listed (filter (λ u. A u) xs) u (filter_keeps (λ u. A u) xs u (within u j) j)) moved v i in
      (h.0, omega (arith, h.1, end), h.2));
}
