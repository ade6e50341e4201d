-- Rows by place: the row at a place, and the vertices that rows name.
use Rattle.pg_dominion.proofs.Common.{rules, ◌≡◌, ◌≢◌, ℕ, zero, suc, ◌+◌, ◌<◌, ◌≤◌, true, false, ◌||◌, inl, inr, List, [], ◌∷◌, length, take, drop, get_or, refl, sym}
use Rattle.pg_dominion.proofs.Common.{◌∙◌, ap, arith, Option, None, ◌==◌, list_any, IsStrictlyIncreasing, eqb-true, eq-eqb, cases_Bool, false_from_ne_true}
use Rattle.pg_dominion.proofs.Common.{length-map, take-append-drop, sorted_from_strictly_increasing, below_from_sorted, ClaimRows, named, choice_in}
use Rattle.std.specs.Prelude.{nat_eq}
use Rattle.std.specs.List.{IsDistinct}
use Rattle.std.proofs.Common.{drop-cons}
use Rattle.std.proofs.lemmas.List.{get_or-map, get_or-take, length-take-le}
use Rattle.std.proofs.lemmas.List.Folds.{list_any_at, list_any_more}
use Rattle.std.proofs.lemmas.Map.Keys.{apart_from_distinct, IsDistinct-from_apart}
use Rattle.pg_dominion.specs.Claim.{vertices, row_at}
use Rattle.pg_dominion.proofs.Named.{choice-back}

pub length_vertices : (rows : ClaimRows) → length (vertices rows) ≡ length rows
length_vertices rows = length-map rows (λ (r : ℕ × Option ℕ). r.0)

pub vertices_at : (rows : ClaimRows) (i d : ℕ) → i < length rows → get_or (vertices rows) i d ≡ (row_at rows i).0
vertices_at rows i d l = get_or-map (λ (r : ℕ × Option ℕ). r.0) rows i (0, None) d l

pub in_vertices : (rows : ClaimRows) (v : ℕ) → list_any (nat_eq v) (vertices rows) ≡ named rows v
in_vertices [] v = refl
in_vertices (r ∷ rows) v = search (rules, in_vertices rows v, eq-eqb, eqb-true)

pub named_at : (rows : ClaimRows) (i : ℕ) → i < length rows → named rows (row_at rows i).0 ≡ true
named_at rows i l = list_any_at (λ (r : ℕ × Option ℕ). r.0 == (row_at rows i).0) rows i (0, None) l (eq-eqb (row_at rows i).0 (row_at rows i).0 refl)

pub named_more : (rows : ClaimRows) (i v : ℕ) → i < length rows → named (take (i + 1) rows) v ≡ (named (take i rows) v || ((row_at rows i).0 == v))
named_more rows i v l = list_any_more (λ (r : ℕ × Option ℕ). r.0 == v) rows i (0, None) l

-- the place of a named vertex
pub place_at : (rows : ClaimRows) (v : ℕ) → named rows v ≡ true → (i : ℕ) × (i < length rows) × ((row_at rows i).0 ≡ v)
place_at [] v n = absurd (cc n)
place_at (r ∷ rows) v n = elim (cases_Bool (r.0 == v)) [
  | inl y ↦ (zero, omega arith, eqb-true r.0 v y)
  | inr m ↦ (let h = place_at rows v (rw m at n) in (suc h.0, omega (arith, h.1), h.2))
]

pub front_named : (rows : ClaimRows) (done i : ℕ) → done ≤ length rows → i < done → named (take done rows) (row_at rows i).0 ≡ true
front_named rows done i m l = search (rules, named_at, length-take-le, get_or-take)

pub front_place : (rows : ClaimRows) (done v : ℕ) → done ≤ length rows → named (take done rows) v ≡ true → (i : ℕ) × (i < done) × ((row_at rows i).0 ≡ v)
front_place rows done v m n = search (rules, place_at, length-take-le, get_or-take)

-- ---- no vertex is in two rows

pub distinct_rising : (xs : List ℕ) → IsStrictlyIncreasing xs → IsDistinct nat_eq xs
distinct_rising xs h = grind (arith, IsDistinct-from_apart, false_from_ne_true, below_from_sorted, sorted_from_strictly_increasing, eqb-true)

-- in rising rows a later row names a greater vertex
pub rises : (rows : ClaimRows) (i k : ℕ) → IsStrictlyIncreasing (vertices rows) → i < k → k < length rows → (row_at rows i).0 < (row_at rows k).0
rises rows i k rising l m =
    let h = below_from_sorted (vertices rows) i k 0 (sorted_from_strictly_increasing (vertices rows) rising) l (omega (arith, m, length_vertices rows)) in
    omega (arith, h, vertices_at rows i 0 (omega (arith, l, m)), vertices_at rows k 0 m)

pub apart_at : (rows : ClaimRows) (i k : ℕ) → IsDistinct nat_eq (vertices rows) → i < k → k < length rows → (row_at rows i).0 ≢ (row_at rows k).0
apart_at rows i k distinct l m e =
    let apart = apart_from_distinct nat_eq (vertices rows) i k 0 distinct l (omega (arith, m, length_vertices rows)) in
    let same = vertices_at rows i 0 (omega (arith, l, m)) ∙ (e ∙ sym (vertices_at rows k 0 m)) in
    cc (apart, eq-eqb (get_or (vertices rows) i 0) (get_or (vertices rows) k 0) same)

-- no earlier row names the vertex of a row
pub fresh_at : (rows : ClaimRows) (i : ℕ) → IsDistinct nat_eq (vertices rows) → i < length rows → named (take i rows) (row_at rows i).0 ≡ false
fresh_at rows i distinct l = false_from_ne_true (named (take i rows) (row_at rows i).0) (λ n.
    (let q = front_place rows i (row_at rows i).0 (omega (arith, l)) n in apart_at rows q.0 i distinct q.1 l q.2))

-- so its choice is that of its row
pub choice_at : (rows : ClaimRows) (i : ℕ) → IsDistinct nat_eq (vertices rows) → i < length rows → choice_in rows (row_at rows i).0 ≡ (row_at rows i).1
choice_at rows i distinct l =
    let v = (row_at rows i).0 in
    ap (λ (xs : ClaimRows). choice_in xs v) (sym (take-append-drop i rows))
    ∙ (choice-back (take i rows) (drop i rows) v (fresh_at rows i distinct l)
    ∙ (ap (λ (xs : ClaimRows). choice_in xs v) (drop-cons rows i (0, None) l) ∙ rw (eq-eqb v v refl) refl))
