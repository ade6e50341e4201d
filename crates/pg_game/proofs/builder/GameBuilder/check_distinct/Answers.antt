use Rattle.pg_game.proofs.Common.{◌≡◌, ℕ, List, [], nat_eq, sym, ◌∙◌, subst, rules, IsDistinct, None, first_repeated, ids_of, false, inl, inr, ◌∷◌, get_or}
use Rattle.pg_game.proofs.Common.{refl, ◌==◌, Contains, AllByRecursion, list_any, IsPermutation, or_parts, Contains-get_or, IsPermutation-sym}
use Rattle.pg_game.proofs.Common.{IsDistinct-IsPermutation, IsDistinct-cons}
use Rattle.std.proofs.lemmas.Map.Keys.{IsStrictlyIncreasing-from_distinct, IsDistinct-head, IsDistinct-tail}
use Rattle.pg_game.proofs.Members.{Contains-nil, Contains-head, Contains-tail, Contains-cons}
use Rattle.pg_game.proofs.builder.GamesInOrder.{none_repeated}
use Rattle.pg_game.proofs.NoMemory.{passed_on}
use Rattle.pg_game.proofs.SpecificationLists.{ids_is}
use Rattle.std.proofs.lemmas.Bool.{or_from}
use Rattle.std.proofs.lemmas.List.Elements.{recursion_from_All}
use Rattle.pg_game.proofs.identifiers.FirstRepeated.{eqb_flip}
use Rattle.pg_game.proofs.Sound.{none_or}
use Rattle.pg_game.proofs.builder.GameBuilder.check_distinct.Goals as goal

all_apart : (x : ℕ) (xs : List ℕ) → ((y : ℕ) → Contains xs y → nat_eq x y ≡ false) → AllByRecursion (λ y. nat_eq x y ≡ false) xs
all_apart x xs h = recursion_from_All (λ y. nat_eq x y ≡ false) xs (λ k d l. h (get_or xs k d) (Contains-get_or xs k d l))

each_apart : (x : ℕ) (xs : List ℕ) → AllByRecursion (λ y. nat_eq x y ≡ false) xs → (y : ℕ) → Contains xs y → nat_eq x y ≡ false
each_apart x [] a y m = absurd (Contains-nil y m)
each_apart x (z ∷ zs) a y m = elim (Contains-cons z y zs m) [
  | inl q ↦ subst (λ (u : ℕ). nat_eq x u ≡ false) q a.0
  | inr n ↦ each_apart x zs a.1 y n
]

-- numbers none of which is repeated differ, also from those before
none_distinct : (earlier xs : List ℕ) → first_repeated earlier xs ≡ None
    → IsDistinct nat_eq xs × ((x : ℕ) → Contains xs x → list_any (λ m. m == x) earlier ≡ false)
unfolding IsDistinct
none_distinct earlier [] e = (tt, λ x m. absurd (Contains-nil x m))
none_distinct earlier (x ∷ xs) e =
    let h = none_or (list_any (λ m. m == x) earlier) x (first_repeated (x ∷ earlier) xs) e in
    let r = none_distinct (x ∷ earlier) xs h.1 in (
      IsDistinct-cons nat_eq x xs (all_apart x xs (λ y m. (or_parts (x == y) (list_any (λ n. n == y) earlier) (r.1 y m)).0)) r.0,
      λ y m. elim (Contains-cons x y xs m) [
        | inl q ↦ subst (λ (z : ℕ). list_any (λ n. n == z) earlier ≡ false) q h.0
        | inr n ↦ (or_parts (x == y) (list_any (λ k. k == y) earlier) (r.1 y n)).1
      ],
    )

distinct_none : (earlier xs : List ℕ) → IsDistinct nat_eq xs → ((x : ℕ) → Contains xs x → list_any (λ m. m == x) earlier ≡ false)
    → first_repeated earlier xs ≡ None
distinct_none earlier [] d h = refl
distinct_none earlier (x ∷ xs) d h =
    let apart = each_apart x xs (IsDistinct-head nat_eq x xs d) in
    rw (h x (Contains-head x xs)) (distinct_none (x ∷ earlier) xs (IsDistinct-tail nat_eq x xs d)
    (λ y m. or_from (x == y) (list_any (λ n. n == y) earlier) (apart y m) (h y (Contains-tail x y xs m))))

module _ {xs ys : List ℕ} (moved : IsPermutation xs ys) where
  still_distinct : IsDistinct nat_eq xs → IsDistinct nat_eq ys
  still_distinct d = IsDistinct-IsPermutation nat_eq (λ x y. eqb_flip x y) xs ys moved d

  still_once : first_repeated [] ys ≡ None → first_repeated [] xs ≡ None
  still_once e =
      let d = IsDistinct-IsPermutation nat_eq (λ x y. eqb_flip x y) ys xs (IsPermutation-sym xs ys moved) (none_distinct [] ys e).0 in
      distinct_none [] xs d (λ x m. refl)

pub returns-then-is_rising-clause-once : goal.returns-then-is_rising-clause-once
returns-then-is_rising-clause-once c =
    let up = c.is_rising.ensures c.if-is_rising.true in
    still_once c.requires.moved (none_repeated [] c.args.sorted.now up (λ m x h k. absurd (Contains-nil m h)))

pub returns-in_err-index_set-clause-fault : goal.returns-in_err-index_set-clause-fault
returns-in_err-index_set-clause-fault c = search (
  rules,
  ids_is,
  passed_on,
  c.as_slice.result.now,
  c.args.self.now,
  c.as_slice.ensures.value,
  c.self.invariant,
  c.self.view_is,
  c.in_err-index_set.ensures.fault,
)

pub returns-clause-rising : goal.returns-clause-rising
returns-clause-rising c =
    let e : c.as_slice.result.now ≡ ids_of c.args.self.now = c.as_slice.ensures.value ∙ sym (ids_is c.self.invariant c.self.view_is) in
    let keys = c.in_ok-index_set.ensures.ids ∙ e in
    let d : IsDistinct nat_eq (ids_of c.args.self.now) = subst (λ (xs : List ℕ). IsDistinct nat_eq xs) keys c.in_ok-index_set.ensures.distinct in
    IsStrictlyIncreasing-from_distinct c.args.sorted.now c.requires.sorted (still_distinct c.requires.moved d)

pub returns-clause-once : goal.returns-clause-once
returns-clause-once c =
    let e : c.as_slice.result.now ≡ ids_of c.args.self.now = c.as_slice.ensures.value ∙ sym (ids_is c.self.invariant c.self.view_is) in
    subst (λ (xs : List ℕ). first_repeated [] xs ≡ None) e c.in_ok-index_set.ensures.once
