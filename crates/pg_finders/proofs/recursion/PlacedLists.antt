-- Lists with a table of places: where a number is listed, and what a removal by a swap leaves.
use Rattle.pg_finders.proofs.Common.{◌≡◌, ◌≢◌, ℕ, suc, ◌+◌, ◌-◌, ◌<◌, ◌≤◌, true, false, ◌&&◌, ◌||◌, not, ◌⊎◌, inl, inr, List, [], ◌∷◌, ◌++◌}
use Rattle.pg_finders.proofs.Common.{length, take, drop, refl, sym, ◌∙◌, ap, subst, arith, below_more, or_parts, ◌==◌, eqb-true, eq-eqb, or_cases, cases_Bool, false_from_ne_true}
use Rattle.pg_finders.proofs.Common.{slice_index_or, slice_set, get_or-set_same, get_or-set_other, get_or-take, get_or_default, length-set, common_steps, In, listed, Once, Apart, All, Player, Even, Odd, opponent, cases_lt}
use Rattle.pg_finders.proofs.Common.{replicate, length-replicate, length-append, count_by-le-length, both_ways}
use Rattle.std.proofs.Common.{nat_lt}
use Rattle.std.proofs.lemmas.Bool.{lt-ltb, le-ltb}
use Rattle.std.proofs.lemmas.List.{get_or-drop, get_or-replicate, length-drop, length-take-le, take-set-le, take_more}
use Rattle.std.specs.List.{swap_remove}
use Rattle.std.specs.Prelude.{◌^◌}
use Rattle.pg_finders.specs.private.recursion.Settled.{HasPlaces, ArePlaced, is_listed_from, IsWithout}
use Rattle.pg_finders.proofs.Sets.{no_both, minus, only}
use Rattle.pg_finders.proofs.recursion.ListsAsSets.{listed_get, listed-append, prefix_or_rest, once_join, once_fits, apart_from, apart_other, all_below}
use Rattle.pg_finders.proofs.recursion.RepeatedAttraction.{all_listed}
use Rattle.pg_finders.proofs.recursion.PriorityOrder.{distinct_once}

-- a listed number has a place
pub listed_at : (xs : List ℕ) (v : ℕ) → In (listed xs) v → (k : ℕ) × (k < length xs) × (slice_index_or xs k 0 ≡ v)
listed_at [] v i = absurd (cc i)
listed_at (x ∷ xs) v i = elim (or_cases (x == v) (listed xs v) i) [
  | inl y ↦ (0, omega arith, eqb-true x v y)
  | inr y ↦ (let h = listed_at xs v y in (suc h.0, omega (arith, h.1), h.2))
]

-- and from a place on, a place from there on
pub from_at : (from : ℕ) (xs : List ℕ) (v : ℕ) → In (listed (drop from xs)) v → (k : ℕ) × (from ≤ k) × (k < length xs) × (slice_index_or xs k 0 ≡ v)
from_at from xs v i =
    let h = listed_at (drop from xs) v i in
    (from + h.0, omega arith, omega (arith, h.1, length-drop from xs), sym (get_or-drop from xs h.0 0) ∙ h.2)

pub at_from : (from : ℕ) (xs : List ℕ) (v k : ℕ) → from ≤ k → k < length xs → slice_index_or xs k 0 ≡ v → In (listed (drop from xs)) v
at_from from xs v k l m e =
    let q : from + (k - from) ≡ k = omega (arith, l) in
    let there : slice_index_or (drop from xs) (k - from) 0 ≡ v = get_or-drop from xs (k - from) 0 ∙ (ap (λ j. slice_index_or xs j 0) q ∙ e) in
    subst (In (listed (drop from xs))) there (listed_get (drop from xs) (k - from) 0 (omega (arith, l, m, length-drop from xs)))

-- the table has the place of a listed number
pub place_from : (places xs : List ℕ) → HasPlaces places xs → (from v : ℕ) → In (listed (drop from xs)) v
    → (from ≤ slice_index_or places v 0) × (slice_index_or places v 0 < length xs) × (slice_index_or xs (slice_index_or places v 0) 0 ≡ v)
place_from places xs h from v i =
    let a = from_at from xs v i in
    let q : slice_index_or places v 0 ≡ a.0 = ap (λ u. slice_index_or places u 0) (sym a.3) ∙ h a.0 a.2 in
    (omega (arith, q, a.1), omega (arith, q, a.2), ap (λ k. slice_index_or xs k 0) q ∙ a.3)

-- no two places have the same number
pub places_differ : (places xs : List ℕ) → HasPlaces places xs → (j k : ℕ) → j < length xs → k < length xs → slice_index_or xs j 0 ≡ slice_index_or xs k 0
    → j ≡ k
places_differ places xs h j k l m e = sym (h j l) ∙ (ap (λ u. slice_index_or places u 0) e ∙ h k m)

-- so none is listed twice
pub places_once : (xs : List ℕ) → ((j k : ℕ) → j < length xs → k < length xs → slice_index_or xs j 0 ≡ slice_index_or xs k 0 → j ≡ k) → Once xs
places_once [] h = tt
places_once (x ∷ xs) h = (
  false_from_ne_true (listed xs x) (λ y. (let a = listed_at xs x y in
      let e = h 0 (suc a.0) (omega arith) (omega (arith, a.1)) (sym a.2) in absurd (omega (arith, e)))),
  places_once xs (λ j k l m e. (let q = h (suc j) (suc k) (omega (arith, l)) (omega (arith, m)) e in omega (arith, q))),
)

-- A number is removed, and the last one takes its place.
module _ (xs : List ℕ) (i d : ℕ) (l : i < length xs) where
  abbrev left : List ℕ
  left = swap_remove xs i d

  pub length-left : length left ≡ length xs - 1
  length-left = length-take-le (length xs - 1) (slice_set xs i (slice_index_or xs (length xs - 1) d)) (omega (arith, length-set xs i (slice_index_or xs (length xs - 1) d)))

  pub left_there : i < length xs - 1 → slice_index_or left i 0 ≡ slice_index_or xs (length xs - 1) d
  left_there m = get_or-take (length xs - 1) (slice_set xs i (slice_index_or xs (length xs - 1) d)) i 0 m
      ∙ get_or-set_same xs i (slice_index_or xs (length xs - 1) d) 0 l

  pub left_else : (k : ℕ) → k < length xs - 1 → k ≢ i → slice_index_or left k 0 ≡ slice_index_or xs k 0
  left_else k m n = get_or-take (length xs - 1) (slice_set xs i (slice_index_or xs (length xs - 1) d)) k 0 m
      ∙ get_or-set_other xs i k (slice_index_or xs (length xs - 1) d) 0 n

differ : {j k : ℕ} → (j == k) ≡ false → j ≢ k
differ {j} {k} n e = no_both (eq-eqb j k e) n

-- The number at its place in the table is removed.
module _ (places xs : List ℕ) (h : HasPlaces places xs) (from v d : ℕ) (i : In (listed (drop from xs)) v) where
  abbrev at : ℕ
  at = slice_index_or places v 0

  abbrev end : ℕ
  end = length xs - 1

  abbrev rest : List ℕ
  rest = swap_remove xs at d

  there : (from ≤ at) × (at < length xs) × (slice_index_or xs at 0 ≡ v)
  there = place_from places xs h from v i

  abbrev moved : ℕ
  moved = slice_index_or xs end d

  moved_is : moved ≡ slice_index_or xs end 0
  moved_is = get_or_default xs end d 0 (omega (arith, there.1))

  size : length rest ≡ end
  size = length-left xs at d there.1

  -- the other list does not have the number that is moved
  pub removed_other : (ys : List ℕ) → HasPlaces places ys → Apart ys xs → HasPlaces (slice_set places moved at) ys
  removed_other ys f apart k m = get_or-set_other places moved (slice_index_or ys k 0) at 0
      (λ e. no_both (subst (In (listed xs)) (sym (e ∙ moved_is)) (listed_get xs end 0 (omega (arith, there.1)))) (apart (slice_index_or ys k 0) (listed_get ys k 0 m)))
      ∙ f k m

  -- what is before the place is as it was
  pub removed_take : take from rest ≡ take from xs
  removed_take = take_shorter from end (slice_set xs at moved) (omega (arith, there.0, there.1)) ∙ take-set-le from xs at moved there.0
    where
      take_shorter : (m n : ℕ) (ys : List ℕ) → m ≤ n → take m (take n ys) ≡ take m ys
      take_shorter m n ys l = grind (arith, common_steps)

  only_once : (k : ℕ) → k < length xs → slice_index_or xs k 0 ≡ v → k ≡ at
  only_once k l e = places_differ places xs h k at l there.1 (e ∙ sym there.2)

  -- from the place on only the number is gone
  pub removed_from : (w : ℕ) → listed (drop from rest) w ≡ (listed (drop from xs) w && not (v == w))
  removed_from w = both_ways (listed (drop from rest) w) (listed (drop from xs) w && not (v == w)) forth back
    where
      forth : In (listed (drop from rest)) w → (listed (drop from xs) w && not (v == w)) ≡ true
      forth j =
          let a = from_at from rest w j in
          let l : a.0 < end = omega (arith, a.2, size) in
          elim (cases_Bool (a.0 == at)) [
            | inl y ↦ (let e = eqb-true a.0 at y in
                let q : slice_index_or xs end 0 ≡ w = sym moved_is ∙ (sym (left_there xs at d there.1 (omega (arith, l, e)))
                ∙ (ap (λ k. slice_index_or rest k 0) (sym e) ∙ a.3)) in
                minus (at_from from xs w end (omega (arith, a.1, l)) (omega (arith, l)) q)
                (false_from_ne_true (v == w) (λ z. (let x = only_once end (omega (arith, l)) (q ∙ sym (eqb-true v w z)) in absurd (omega (arith, x, e, l))))))
            | inr n ↦ (let q : slice_index_or xs a.0 0 ≡ w = sym (left_else xs at d there.1 a.0 l (differ n)) ∙ a.3 in
                minus (at_from from xs w a.0 a.1 (omega (arith, l)) q)
                (false_from_ne_true (v == w) (λ z. differ n (only_once a.0 (omega (arith, l)) (q ∙ sym (eqb-true v w z))))))
          ]

      back : (listed (drop from xs) w && not (v == w)) ≡ true → In (listed (drop from rest)) w
      back j =
          let b = only (listed (drop from xs) w) (v == w) j in
          let a = from_at from xs w b.0 in
          let n : a.0 ≢ at = λ e. no_both (eq-eqb v w (sym there.2 ∙ (ap (λ k. slice_index_or xs k 0) (sym e) ∙ a.3))) b.1 in
          elim (cases_Bool (a.0 == end)) [
            | inl y ↦ (let e = eqb-true a.0 end y in
                let l : at < end = omega (arith, there.1, n, e) in
                at_from from rest w at there.0 (omega (arith, size, l))
                (left_there xs at d there.1 l ∙ (moved_is ∙ (ap (λ k. slice_index_or xs k 0) (sym e) ∙ a.3))))
            | inr m ↦ (let l : a.0 < end = omega (arith, a.2, differ m) in
                at_from from rest w a.0 a.1 (omega (arith, size, l)) (left_else xs at d there.1 a.0 l n ∙ a.3))
          ]

-- whether a number is listed from a place on, by its place
pub has_place : (places xs : List ℕ) → HasPlaces places xs → (from v at : ℕ) → at ≡ slice_index_or places v 0 → from ≤ at → at < length xs
    → (slice_index_or xs at 0 == v) ≡ listed (drop from xs) v
has_place places xs h from v at e l m = both_ways (slice_index_or xs at 0 == v) (listed (drop from xs) v)
    (λ i. at_from from xs v at l m (eqb-true (slice_index_or xs at 0) v i))
    (λ i. eq-eqb (slice_index_or xs at 0) v (ap (λ k. slice_index_or xs k 0) e ∙ (place_from places xs h from v i).2))

pub has_no_place : (places xs : List ℕ) → HasPlaces places xs → (from v at : ℕ) → at ≡ slice_index_or places v 0 → (from ≤ at → at < length xs → ⊥)
    → listed (drop from xs) v ≡ false
has_no_place places xs h from v at e none = false_from_ne_true (listed (drop from xs) v) (λ i.
    (let a = place_from places xs h from v i in none (omega (arith, e, a.0)) (omega (arith, e, a.1))))

-- one more place is written, of a number that differs from those before
pub written_before : (places vs : List ℕ) (i at from : ℕ) → Once vs → i < length vs → slice_index_or vs i 0 < length places → at ≡ from + i
    → ((k : ℕ) → k < i → slice_index_or places (slice_index_or vs k 0) 0 ≡ from + k) → (k : ℕ) → k < i + 1
    → slice_index_or (slice_set places (slice_index_or vs i 0) at) (slice_index_or vs k 0) 0 ≡ from + k
written_before places vs i at from once l b e h = below_more _ _
    (λ k m. get_or-set_other places (slice_index_or vs i 0) (slice_index_or vs k 0) at 0 (distinct_once vs once k i m l) ∙ h k m)
    (get_or-set_same places (slice_index_or vs i 0) at 0 b ∙ e)

pub written_elsewhere : (old places vs : List ℕ) (i at : ℕ) → i < length vs
    → ((v : ℕ) → listed (take i vs) v ≡ false → slice_index_or places v 0 ≡ slice_index_or old v 0) → (v : ℕ) → listed (take (i + 1) vs) v ≡ false
    → slice_index_or (slice_set places (slice_index_or vs i 0) at) v 0 ≡ slice_index_or old v 0
written_elsewhere old places vs i at l h v n =
    let a : (listed (take i vs) v || listed (slice_index_or vs i 0 ∷ []) v) ≡ false =
    sym (listed-append (take i vs) (slice_index_or vs i 0 ∷ []) v) ∙ (ap (λ xs. listed xs v) (sym (take_more vs i 0 l)) ∙ n) in
    let b = or_parts (listed (take i vs) v) (listed (slice_index_or vs i 0 ∷ []) v) a in
    let c = or_parts (slice_index_or vs i 0 == v) false b.1 in
    get_or-set_other places (slice_index_or vs i 0) v at 0 (λ e. no_both (eq-eqb (slice_index_or vs i 0) v (sym e)) c.0) ∙ h v b.0

-- the list is without the number that was removed
pub removed_without : (places xs : List ℕ) → HasPlaces places xs → (v d : ℕ) → In (listed xs) v
    → IsWithout v xs (swap_remove xs (slice_index_or places v 0) d)
removed_without places xs h v d i = record {
  len = length-left xs (slice_index_or places v 0) d (place_from places xs h 0 v i).1;
  before = λ k j. removed_take places xs h k v d j;
  from = λ k w j. removed_from places xs h k v d j w;
}

for_each : (P : Player → Type 0) → P Even → P Odd → (q : Player) → P q
for_each P a b Even = a
for_each P a b Odd = b

joined_below : (n : ℕ) (xs vs ys : List ℕ) → ys ≡ xs ++ vs → All (λ v. v < n) xs → All (λ v. v < n) vs → All (λ v. v < n) ys
joined_below n xs vs ys e a b = all_below n ys (λ v i. elim (prefix_or_rest xs vs v (subst (λ zs. In (listed zs) v) e i)) [
  | inl y ↦ all_listed (λ u. u < n) xs a v y
  | inr y ↦ all_listed (λ u. u < n) vs b v y
])

-- the lists are placed where numbers are appended to one of them
pub placed_append : {n : ℕ} {places places' : List ℕ} {lists lists' : Player → List ℕ} (p : Player) (vs : List ℕ) → ArePlaced n places lists
    → lists' p ≡ lists p ++ vs → lists' (opponent p) ≡ lists (opponent p) → length places' ≡ length places → HasPlaces places' (lists' p)
    → ((ys : List ℕ) → HasPlaces places ys → Apart ys vs → HasPlaces places' ys) → All (λ v. v < n) vs → ((q : Player) → Apart (lists q) vs)
    → ArePlaced n places' lists'
placed_append {n} {places} {places'} {lists} {lists'} Even vs h own other len table others below fresh = record {
  size = len ∙ h.size;
  few = h.few;
  below = for_each (λ q. All (λ v. v < n) (lists' q)) (joined_below n (lists Even) vs (lists' Even) own (h.below Even) below)
      (subst (λ ys. All (λ v. v < n) ys) (sym other) (h.below Odd));
  table = for_each (λ q. HasPlaces places' (lists' q)) table (subst (HasPlaces places') (sym other) (others (lists Odd) (h.table Odd) (fresh Odd)));
  players = apart_from (lists' Even) (lists' Odd) (λ v i j.
      (let k : In (listed (lists Odd)) v = subst (λ ys. In (listed ys) v) other j in
      elim (prefix_or_rest (lists Even) vs v (subst (λ zs. In (listed zs) v) own i)) [
        | inl x ↦ no_both k (h.players v x)
        | inr x ↦ no_both x (fresh Odd v k)
      ]));
}
placed_append {n} {places} {places'} {lists} {lists'} Odd vs h own other len table others below fresh = record {
  size = len ∙ h.size;
  few = h.few;
  below = for_each (λ q. All (λ v. v < n) (lists' q)) (subst (λ ys. All (λ v. v < n) ys) (sym other) (h.below Even))
      (joined_below n (lists Odd) vs (lists' Odd) own (h.below Odd) below);
  table = for_each (λ q. HasPlaces places' (lists' q)) (subst (HasPlaces places') (sym other) (others (lists Even) (h.table Even) (fresh Even))) table;
  players = apart_from (lists' Even) (lists' Odd) (λ v i j.
      (let k : In (listed (lists Even)) v = subst (λ ys. In (listed ys) v) other i in
      elim (prefix_or_rest (lists Odd) vs v (subst (λ zs. In (listed zs) v) own j)) [
        | inl x ↦ no_both x (h.players v k)
        | inr x ↦ no_both x (fresh Even v k)
      ]));
}

-- no number is twice in a list
pub lists_once : {n : ℕ} {places : List ℕ} {lists : Player → List ℕ} → ArePlaced n places lists → (p : Player) → Once (lists p)
lists_once {places = places} {lists = lists} h p = places_once (lists p) (places_differ places (lists p) (h.table p))

-- with others below n it is no longer than n
pub few_placed : {n : ℕ} {places : List ℕ} {lists : Player → List ℕ} (vs : List ℕ) → ArePlaced n places lists → All (λ v. v < n) vs → Once vs
    → ((p : Player) → Apart (lists p) vs) → (p : Player) → length (lists p) + length vs < 2 ^ 32
few_placed {n} {lists = lists} vs h below once fresh p =
    let fits = once_fits (lists p ++ vs) (replicate n true) (once_join (lists p) vs (lists_once h p) once (fresh p))
    (λ v i. get_or-replicate n v true false (elim (prefix_or_rest (lists p) vs v i) [
      | inl k ↦ all_listed (λ u. u < n) (lists p) (h.below p) v k
      | inr k ↦ all_listed (λ u. u < n) vs below v k
    ])) in
    omega (arith, fits, h.few, count_by-le-length (λ b. b) (replicate n true), length-replicate n true, length-append (lists p) vs)

-- what is listed still was listed
pub fewer_without : {v : ℕ} {old new : List ℕ} → In (listed old) v → IsWithout v old new → (w : ℕ) → In (listed new) w → In (listed old) w
fewer_without {v} {old} i h w j = (only (listed old w) (v == w) (sym (h.from 0 w i) ∙ j)).0

-- and where a number is removed from one of them
pub placed_remove : {n : ℕ} {places places' : List ℕ} {lists lists' : Player → List ℕ} (p : Player) (v : ℕ) → ArePlaced n places lists
    → In (listed (lists p)) v → IsWithout v (lists p) (lists' p) → lists' (opponent p) ≡ lists (opponent p) → length places' ≡ length places
    → HasPlaces places' (lists' p) → ((ys : List ℕ) → HasPlaces places ys → Apart ys (lists p) → HasPlaces places' ys) → ArePlaced n places' lists'
placed_remove {n} {places} {places'} {lists} {lists'} Even v h i own other len table others = record {
  size = len ∙ h.size;
  few = h.few;
  below = for_each (λ q. All (λ u. u < n) (lists' q))
      (all_below n (lists' Even) (λ w j. all_listed (λ u. u < n) (lists Even) (h.below Even) w (fewer_without i own w j)))
      (subst (λ ys. All (λ u. u < n) ys) (sym other) (h.below Odd));
  table = for_each (λ q. HasPlaces places' (lists' q)) table
      (subst (HasPlaces places') (sym other) (others (lists Odd) (h.table Odd) (apart_other (lists Even) (lists Odd) h.players)));
  players = apart_from (lists' Even) (lists' Odd) (λ w j k.
      no_both (subst (λ ys. In (listed ys) w) other k) (h.players w (fewer_without i own w j)));
}
placed_remove {n} {places} {places'} {lists} {lists'} Odd v h i own other len table others = record {
  size = len ∙ h.size;
  few = h.few;
  below = for_each (λ q. All (λ u. u < n) (lists' q)) (subst (λ ys. All (λ u. u < n) ys) (sym other) (h.below Even))
      (all_below n (lists' Odd) (λ w j. all_listed (λ u. u < n) (lists Odd) (h.below Odd) w (fewer_without i own w j)));
  table = for_each (λ q. HasPlaces places' (lists' q)) (subst (HasPlaces places') (sym other) (others (lists Even) (h.table Even) h.players)) table;
  players = apart_from (lists' Even) (lists' Odd) (λ w j k.
      no_both (fewer_without i own w k) (h.players w (subst (λ ys. In (listed ys) w) other j)));
}

-- ---- the test

pub is_listed_here : (places xs : List ℕ) (from v at : ℕ) → at ≡ slice_index_or places v 0 → from ≤ at → at < length xs
    → (slice_index_or xs at 0 == v) ≡ is_listed_from places xs from v
is_listed_here places xs from v at e l m = rw e (here (slice_index_or places v 0) (omega (arith, e, l)) (omega (arith, e, m)))
  where
    here : (k : ℕ) → from ≤ k → k < length xs → (slice_index_or xs k 0 == v) ≡ ((nat_lt k (length xs) && not (nat_lt k from)) && (slice_index_or xs k 0 == v))
    here k a b = rw (lt-ltb k (length xs) b, le-ltb k from a) refl

pub not_listed_from : (places xs : List ℕ) (from v at : ℕ) → at ≡ slice_index_or places v 0 → (from ≤ at → at < length xs → ⊥) → is_listed_from places xs from v ≡ false
not_listed_from places xs from v at e none = rw (← e) (there (cases_lt at from) (cases_lt at (length xs)))
  where
    there : (at < from) ⊎ (from ≤ at) → (at < length xs) ⊎ (length xs ≤ at)
        → ((nat_lt at (length xs) && not (nat_lt at from)) && (slice_index_or xs at 0 == v)) ≡ false
    there x (inr m) = rw (le-ltb at (length xs) m) refl
    there (inr l) (inl m) = absurd (none l m)
    there (inl l) (inl m) = rw (lt-ltb at (length xs) m, lt-ltb at from l) refl

pub listed_from_is : (places xs : List ℕ) → HasPlaces places xs → (from v : ℕ) → is_listed_from places xs from v ≡ listed (drop from xs) v
listed_from_is places xs h from v = there (cases_lt (slice_index_or places v 0) from) (cases_lt (slice_index_or places v 0) (length xs))
  where
    at : ℕ
    at = slice_index_or places v 0

    there : (at < from) ⊎ (from ≤ at) → (at < length xs) ⊎ (length xs ≤ at) → is_listed_from places xs from v ≡ listed (drop from xs) v
    there (inr l) (inl m) = sym (is_listed_here places xs from v at refl l m) ∙ has_place places xs h from v at refl l m
    there (inl l) x = not_listed_from places xs from v at refl (λ a b. omega (arith, a, l)) ∙ sym (has_no_place places xs h from v at refl (λ a b. omega (arith, a, l)))
    there x (inr m) = not_listed_from places xs from v at refl (λ a b. omega (arith, b, m)) ∙ sym (has_no_place places xs h from v at refl (λ a b. omega (arith, b, m)))
