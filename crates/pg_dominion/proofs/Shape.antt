-- The shape of a claim, one row after another.
use Rattle.pg_dominion.proofs.Common.{◌≡◌, ℕ, zero, suc, ◌+◌, ◌<◌, ◌≤◌, inl, inr, List, [], ◌∷◌, ◌++◌, length, take, get_or, sym, subst}
use Rattle.pg_dominion.proofs.Common.{arith, length-append, rules, below_or_last, Option}
use Rattle.pg_dominion.proofs.Common.{IsStrictlyIncreasing}
use Rattle.pg_dominion.proofs.Common.{take_more, take_all, length-map, get_or_append_left, get_or_push, sorted_from_strictly_increasing}
use Rattle.pg_dominion.proofs.Common.{below_from_sorted, Player, Graph, ClaimRows, IsRightRow, AreRight}
use Rattle.std.specs.Prelude.{slice_index, max}
use Rattle.std.proofs.Common.{None}
use Rattle.pg_dominion.specs.Claim.{IsFirstWrongRow, vertices}
use Rattle.std.proofs.lemmas.List.{map_push, map-append}
use Rattle.pg_game.proofs.AllElements.{all-push, all-front, all-back}

-- the least number above all vertices of the rows
abbrev pub next_after : ClaimRows → ℕ
next_after [] = 0
next_after (r ∷ rows) = max (r.0 + 1) (next_after rows)

-- the first rows, up to this number, are right, and this is the least vertex that the next one may have
pub record AreRightBefore (g : Graph) (p : Player) (rows : ClaimRows) (place least : ℕ) : Type 0 where
  pub right : AreRight g p (take place rows)
  pub least_is : least ≡ next_after (take place rows)
  pub far : place ≤ least
  pub within : least ≤ length g

pub next_after-push : (rows : ClaimRows) (r : ℕ × Option ℕ) → next_after rows ≤ r.0 → next_after (rows ++ r ∷ []) ≡ r.0 + 1
next_after-push [] r l = omega arith
next_after-push (x ∷ rows) r l = omega (arith, next_after-push rows r (omega arith))

-- each vertex is below the next
below_next : (rows : ClaimRows) (k : ℕ) → k < length rows → slice_index (vertices rows) k < next_after rows
below_next [] k l = absurd (omega arith)
below_next (x ∷ rows) zero l = omega arith
below_next (x ∷ rows) (suc k) l = omega (arith, below_next rows k (omega arith))

next_least : (rows : ClaimRows) (m : ℕ) → ((k : ℕ) → k < length rows → slice_index (vertices rows) k < m) → next_after rows ≤ m
next_least [] m h = omega arith
next_least (x ∷ rows) m h = let a : x.0 < m = h 0 (omega arith) in omega (arith, next_least rows m (λ k l. h (suc k) (omega arith)))

pub AreRight-push : (g : Graph) (p : Player) (rows : ClaimRows) (r : ℕ × Option ℕ) → AreRight g p rows → IsRightRow g p r → next_after rows ≤ r.0
    → AreRight g p (rows ++ r ∷ [])
AreRight-push g p rows r a right l = record {
  each = all-push (IsRightRow g p) rows r a.each right;
  rising = subst (λ (xs : List ℕ). IsStrictlyIncreasing xs) (sym (map_push (λ (x : ℕ × Option ℕ). x.0) rows r)) (λ k lt.
      let size = length-map rows (λ (x : ℕ × Option ℕ). x.0) in
      elim (below_or_last (length rows) (k + 1) (omega (arith, size, length-append (vertices rows) (r.0 ∷ [])))) [
        | inl m ↦ (let e = get_or_append_left (vertices rows) (r.0 ∷ []) 0 k (omega (arith, size)) in
            let f = get_or_append_left (vertices rows) (r.0 ∷ []) 0 (k + 1) (omega (arith, size)) in
            let h = a.rising k (omega (arith, size)) in
            rw (e, f) h)
        | inr m ↦ (let e = get_or_append_left (vertices rows) (r.0 ∷ []) 0 k (omega (arith, size)) in
            let f = get_or_push (vertices rows) r.0 0 (k + 1) (omega (arith, size)) in
            let h = below_next rows k (omega arith) in
            rw (e, f) (omega arith))
      ]);
}

pub AreRight-last : (g : Graph) (p : Player) (rows : ClaimRows) (r : ℕ × Option ℕ) → AreRight g p (rows ++ r ∷ [])
    → IsRightRow g p r × (next_after rows ≤ r.0)
AreRight-last g p rows r a =
    let size = length-map rows (λ (x : ℕ × Option ℕ). x.0) in
    let up : IsStrictlyIncreasing (vertices rows ++ r.0 ∷ []) =
    subst (λ (xs : List ℕ). IsStrictlyIncreasing xs) (map_push (λ (x : ℕ × Option ℕ). x.0) rows r) a.rising in (
      (all-back (IsRightRow g p) rows (r ∷ []) a.each).0,
      next_least rows r.0 (λ k l.
          let e = get_or_append_left (vertices rows) (r.0 ∷ []) 0 k (omega (arith, size)) in
          let f = get_or_push (vertices rows) r.0 0 (length rows) size in
          let h = below_from_sorted (vertices rows ++ r.0 ∷ []) k (length rows) 0 (sorted_from_strictly_increasing (vertices rows ++ r.0 ∷ []) up) l
          (omega (arith, size, length-append (vertices rows) (r.0 ∷ []))) in
          let i : get_or (vertices rows) k 0 < r.0 = omega (arith, e, f, h) in i),
    )

pub AreRight-front : (g : Graph) (p : Player) (xs ys : ClaimRows) → AreRight g p (xs ++ ys) → AreRight g p xs
AreRight-front g p xs ys a = search (rules, all-front, a.each, map-append, a.rising, get_or_append_left, length-append)

-- rows that are checked one after another
module _ (g : Graph) (p : Player) (rows : ClaimRows) where
  pub right_before_none : AreRightBefore g p rows 0 0
  right_before_none = search (rules)

  module _ (i least : ℕ) (before : AreRightBefore g p rows i least) where
    abbrev next : ℕ × Option ℕ
    next = get_or rows i (0, None)

    pub right_before_next : i < length rows → IsRightRow g p next → least ≤ next.0 → AreRightBefore g p rows (i + 1) (next.0 + 1)
    right_before_next l right up =
        let more : take (i + 1) rows ≡ take i rows ++ next ∷ [] = take_more rows i (0, None) l in
        let low : next_after (take i rows) ≤ next.0 = omega (arith, before.least_is, up) in
        record {
          right = subst (λ (xs : ClaimRows). AreRight g p xs) (sym more) (AreRight-push g p (take i rows) next before.right right low);
          least_is = sym (rw more (next_after-push (take i rows) next low));
          far = omega (arith, before.far, up);
          within = omega (arith, right.vertex);
        }

    pub wrong_next : i < length rows → (IsRightRow g p next → least ≤ next.0 → ⊥) → IsFirstWrongRow g p rows i
    wrong_next l wrong = inr (
      l,
      before.right,
      λ a. (let h = AreRight-last g p (take i rows) next (subst (λ (xs : ClaimRows). AreRight g p xs) (take_more rows i (0, None) l) a) in
          wrong h.0 (omega (arith, before.least_is, h.1))),
    )

    pub all_right : length rows ≤ i → AreRight g p rows
    all_right l = subst (λ (xs : ClaimRows). AreRight g p xs) (take_all i rows l) before.right
