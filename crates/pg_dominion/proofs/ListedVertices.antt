-- Vertices that are taken one after another, each listed: what stays the same, and what is done once they are reached.
use Rattle.pg_dominion.proofs.Common.{◌≡◌, ℕ, ◌+◌, ◌<◌, ◌≤◌, true, false, ◌||◌, inl, inr, List, [], ◌∷◌, ◌++◌, length, take, get_or}
use Rattle.pg_dominion.proofs.Common.{sym, ◌∙◌, ap, subst, arith, ltb-true}
use Rattle.pg_dominion.proofs.Common.{length-append, rules, fun_ext, or-false, ◌==◌, if◌then◌else◌, eqb-true, eq-eqb, or_left}
use Rattle.pg_dominion.proofs.Common.{or_right, or_cases, append-nil}
use Rattle.pg_dominion.proofs.Common.{take_more, take_all, take-append-le, take-append-drop, list_any-append, Player, Graph, HasEdge}
use Rattle.pg_dominion.proofs.Common.{VertexSet, In, Within}
use Rattle.pg_game.specs.VertexSet.{all_vertices}
use Rattle.pg_dominion.proofs.Common.{union, listed_by, Takes, AttractsNoFurther, IsTakenOrOpen}
use Rattle.std.proofs.Common.{append_assoc}
use Rattle.std.specs.Prelude.{OnOk, Result}
use Rattle.pg_dominion.proofs.AttractionSteps.{IsDone-more}

pub on_ok_both : {T E : Type 0} (P Q : Type 0) (r : Result T E) → OnOk r P → OnOk r Q → OnOk r (P × Q)
on_ok_both x0 x1 x2 p q = search (rules)

module _ {A : Type 0} (f : A → ℕ) where
  listed-push : (xs : List A) (x : A) (v : ℕ) → listed_by f (xs ++ x ∷ []) v ≡ (listed_by f xs v || (f x == v))
  listed-push xs x v = list_any-append (λ y. f y == v) xs (x ∷ []) ∙ ap (λ b. listed_by f xs v || b) (or-false (f x == v))

  -- what is listed last is listed
  pub last_listed : (xs ys : List A) (x : A) (v : ℕ) → f x ≡ v → ys ≡ xs ++ x ∷ [] → listed_by f ys v ≡ true
  last_listed xs ys x v e l = rw (l, listed-push xs x v) (or_right (listed_by f xs v) (f x == v) (eq-eqb (f x) v e))

  pub takes_none : (F F' : VertexSet) (xs : List A) → ((v : ℕ) → F' v ≡ F v) → Takes f F xs F' xs
  takes_none F F' xs same = record { more = []; list_is = sym (append-nil xs); same = λ v. ap (λ b. b || listed_by f xs v) (same v) }

  pub takes_one : (F F' F'' : VertexSet) (xs xs' : List A) (v : ℕ) → ((w : ℕ) → F' w ≡ F w) → In F v
      → (x : A) × (f x ≡ v) × (xs' ≡ xs ++ x ∷ []) → ((w : ℕ) → F'' w ≡ (if v == w then false else F' w)) → Takes f F xs F'' xs'
  takes_one F F' F'' xs xs' v same i (x, e, l) now = search (rules, listed-push, eqb-true, or-false)

  pub takes_then : (F F' F'' : VertexSet) (xs ys zs : List A) → Takes f F xs F' ys → Takes f F' ys F'' zs → Takes f F xs F'' zs
  takes_then F F' F'' xs ys zs a b = search (rules, a.more, b.more, b.list_is, a.list_is, append_assoc, b.same, a.same)

  module _ (F F' : VertexSet) (xs xs' : List A) (t : Takes f F xs F' xs') where
    pub takes_longer : length xs ≤ length xs'
    takes_longer = let e = ap length t.list_is in omega (arith, e, length-append xs t.more)

    pub takes_front : (n : ℕ) → n ≤ length xs → take n xs' ≡ take n xs
    takes_front n l = ap (take n) t.list_is ∙ take-append-le n xs t.more l

    pub takes_within : Within (listed_by f xs) (listed_by f xs')
    takes_within v i = search (rules, t.list_is, list_any-append, t.more, or_left)

    pub takes_below : (X : VertexSet) → Within (union F (listed_by f xs)) X → Within (listed_by f xs') X
    takes_below X w v i = w v (sym (t.same v) ∙ or_right (F' v) (listed_by f xs' v) i)

    pub takes_set : union F' (listed_by f xs') ≡ union F (listed_by f xs)
    takes_set = fun_ext t.same

  module _ (xs : List A) (n : ℕ) (x : A) (l : n < length xs) (d : A) (e : x ≡ get_or xs n d) where
    one_more : take (n + 1) xs ≡ take n xs ++ x ∷ []
    one_more = take_more xs n d l ∙ ap (λ (y : A). take n xs ++ y ∷ []) (sym e)

    in_take : (v : ℕ) → In (listed_by f (take (n + 1) xs)) v → In (listed_by f xs) v
    in_take v i =
        subst (λ (ys : List A). listed_by f ys v ≡ true) (take-append-drop (n + 1) xs)
        (list_any-append (λ y. f y == v) (take (n + 1) xs) _ ∙ or_left (listed_by f (take (n + 1) xs) v) _ i)

    pub next_listed : In (listed_by f xs) (f x)
    next_listed = search (rules, in_take, one_more, listed-push, or_right, eq-eqb)

    pub next_below : (g : Graph) → Within (listed_by f xs) (all_vertices g) → f x < length g
    next_below g w = ltb-true (f x) (length g) (w (f x) next_listed)

    -- the next item's vertex is reached
    pub next_reached : (g : Graph) (p : Player) (U F F' : VertexSet) (xs' : List A) → Takes f F xs F' xs' → (v : ℕ) → v ≡ f x
        → ((u : ℕ) → In U u → HasEdge g u v → IsTakenOrOpen g p U (listed_by f xs) (listed_by f xs') u)
        → AttractsNoFurther g p U (listed_by f (take n xs)) (listed_by f xs) → AttractsNoFurther g p U (listed_by f (take (n + 1) xs')) (listed_by f xs')
    next_reached g p U F F' xs' t v is settled d =
        let front : take (n + 1) xs' ≡ take (n + 1) xs = takes_front F F' xs xs' t (n + 1) (omega (arith, l)) in
        IsDone-more g p U (listed_by f (take n xs)) (listed_by f (take (n + 1) xs')) (listed_by f xs) (listed_by f xs') (f x) (takes_within F F' xs xs' t)
        (λ v i. in_take v (subst (λ (ys : List A). listed_by f ys v ≡ true) front i))
        (λ v i. elim (or_cases (listed_by f (take n xs) v) (f x == v)
        (sym (listed-push (take n xs) x v) ∙ subst (λ (ys : List A). listed_by f ys v ≡ true) (front ∙ one_more) i)) [
          | inl h ↦ inl h
          | inr h ↦ inr (sym (eqb-true (f x) v h))
        ])
        (λ u i h. settled u i (rw is h)) d

  pub all_done : (g : Graph) (p : Player) (U : VertexSet) (xs : List A) (n : ℕ) → length xs ≤ n
      → AttractsNoFurther g p U (listed_by f (take n xs)) (listed_by f xs) → AttractsNoFurther g p U (listed_by f xs) (listed_by f xs)
  all_done g p U xs n l d = subst (λ (ys : List A). AttractsNoFurther g p U (listed_by f ys) (listed_by f xs)) (take_all n xs l) d
