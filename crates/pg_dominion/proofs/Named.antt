-- Rows that name a vertex: those of two lists, and the place of the first.
use Rattle.pg_dominion.proofs.Common.{◌≡◌, ℕ, suc, ◌<◌, true, false, ◌||◌, inl, inr, [], ◌∷◌, ◌++◌, length, refl, ap, arith, Option, ◌==◌, if◌then◌else◌}
use Rattle.pg_dominion.proofs.Common.{eqb-true, eq-eqb, cases_Bool, or_parts, list_any-append, ClaimRows, named, choice_in}

pub named-append : (xs ys : ClaimRows) (v : ℕ) → named (xs ++ ys) v ≡ (named xs v || named ys v)
named-append xs ys v = list_any-append (λ r. r.0 == v) xs ys

pub choice-front : (xs ys : ClaimRows) (v : ℕ) → named xs v ≡ true → choice_in (xs ++ ys) v ≡ choice_in xs v
choice-front [] ys v i = absurd (cc i)
choice-front (r ∷ xs) ys v i = elim (cases_Bool (r.0 == v)) [
  | inl e ↦ rw e refl
  | inr e ↦ (let n : named xs v ≡ true = rw e at i in rw e (choice-front xs ys v n))
]

pub choice-back : (xs ys : ClaimRows) (v : ℕ) → named xs v ≡ false → choice_in (xs ++ ys) v ≡ choice_in ys v
choice-back [] ys v i = refl
choice-back (r ∷ xs) ys v i = let n = or_parts (r.0 == v) (named xs v) i in rw n.0 (choice-back xs ys v n.1)

-- where a vertex is first named
pub record Place (rows : ClaimRows) (v : ℕ) : Type 0 where
  pub before : ClaimRows
  pub choice : Option ℕ
  pub after : ClaimRows
  pub split : rows ≡ before ++ (v, choice) ∷ after
  pub first : named before v ≡ false
  pub chosen : choice_in rows v ≡ choice

pub place_of : (rows : ClaimRows) (v : ℕ) → named rows v ≡ true → Place rows v
place_of [] v i = absurd (cc i)
place_of (r ∷ rows) v i = elim (cases_Bool (r.0 == v)) [
  | inl e ↦ record {
    before = [];
    choice = r.1;
    after = rows;
    split = ap (λ (u : ℕ). (u, r.1) ∷ rows) (eqb-true r.0 v e);
    first = refl;
    chosen = rw e refl;
  }
  | inr e ↦ (let p = place_of rows v (rw e at i) in
      record {
        before = r ∷ p.before;
        choice = p.choice;
        after = p.after;
        split = ap (λ xs. r ∷ xs) p.split;
        first = rw e p.first;
        chosen = rw e p.chosen;
      })
]

-- how many rows are before the first that names the vertex
abbrev pub rank : ClaimRows → ℕ → ℕ
rank [] v = 0
rank (r ∷ rows) v = if r.0 == v then 0 else suc (rank rows v)

pub rank_below : (xs ys : ClaimRows) (v : ℕ) → named xs v ≡ true → rank (xs ++ ys) v < length xs
rank_below [] ys v i = absurd (cc i)
rank_below (r ∷ xs) ys v i = elim (cases_Bool (r.0 == v)) [
  | inl e ↦ rw e (omega arith)
  | inr e ↦ (let n : named xs v ≡ true = rw e at i in rw e (omega (arith, rank_below xs ys v n)))
]

pub rank_at : (xs : ClaimRows) (c : Option ℕ) (ys : ClaimRows) (v : ℕ) → named xs v ≡ false → rank (xs ++ (v, c) ∷ ys) v ≡ length xs
rank_at [] c ys v i = rw (eq-eqb v v refl) refl
rank_at (r ∷ xs) c ys v i = let n = or_parts (r.0 == v) (named xs v) i in rw n.0 (ap suc (rank_at xs c ys v n.1))
