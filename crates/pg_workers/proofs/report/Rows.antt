-- Lists of rows.
use Rattle.pg_workers.proofs.Common.{rules, ◌≡◌, ◌≢◌, ℕ, zero, suc, ◌+◌, ◌<◌, ◌⊎◌, inl, inr, Bool, true, false, List, [], ◌∷◌, ◌++◌, All, Vec, Global, length}
use Rattle.pg_workers.proofs.Common.{take, set, refl, sym, ap, ◌∙◌, subst, arith, common_steps, ◌==◌, cond, sum_by, slice_get, Some, times}
use Rattle.pg_workers.proofs.Common.{take-append_seam, nat_tests, map-append, sum_by-cons, sum_by-append, none-some, same_Some, slice_get_within, ReportRow}
use Rattle.pg_workers.proofs.Common.{get_or_from_slice_get, IsInOrder, blank_row, settled_in, AreBlank, jobs_in}
use Rattle.pg_workers.proofs.Common.{rows_in, how_many_of_job}

-- the first n rows settled nothing
abbrev pub AreIdle : ℕ → List ReportRow → Type 0
AreIdle n rows = (k : ℕ) (r : ReportRow) → slice_get rows k ≡ Some r → k < n → r.settled ≡ 0

-- rows that settled nothing add up to nothing
pub none_settled : (rows : List ReportRow) → AreIdle (length rows) rows → settled_in rows ≡ 0
none_settled [] h = refl
none_settled (r ∷ rows) h =
    let a : r.settled ≡ 0 = h 0 r refl (omega arith) in search (rules, none_settled rows (λ k x e lt. h (suc k) x e (omega arith)), sum_by-cons)

module _ {X : Type 0} where
  pub get_set_same : (xs : List X) (i : ℕ) (x : X) → i < length xs → slice_get (set xs i x) i ≡ Some x
  get_set_same [] i x lt = absurd (omega arith)
  get_set_same (y ∷ ys) zero x lt = refl
  get_set_same (y ∷ ys) (suc i) x lt = get_set_same ys i x (omega arith)

  pub get_set_other : (xs : List X) (i j : ℕ) (x : X) → j ≢ i → slice_get (set xs i x) j ≡ slice_get xs j
  get_set_other [] i j x apart = refl
  get_set_other (y ∷ ys) zero zero x apart = absurd (apart refl)
  get_set_other (y ∷ ys) zero (suc j) x apart = refl
  get_set_other (y ∷ ys) (suc i) zero x apart = refl
  get_set_other (y ∷ ys) (suc i) (suc j) x apart = get_set_other ys i j x (λ e. apart (ap suc e))

  -- an element of two lists is one of the first or one of the second
  pub get_append : (xs ys : List X) (i : ℕ) (x : X) → slice_get (xs ++ ys) i ≡ Some x
      → (slice_get xs i ≡ Some x) ⊎ ((k : ℕ) × (slice_get ys k ≡ Some x))
  get_append [] ys i x e = inr (i, e)
  get_append (z ∷ zs) ys zero x e = inl e
  get_append (z ∷ zs) ys (suc i) x e = get_append zs ys i x e

-- one where n is j, else none
abbrev pub at_job : ℕ → ℕ → ℕ
at_job j n = cond (n == j) 1 0

is_one : (j : ℕ) → at_job j j ≡ 1
is_one j = grind (arith, nat_tests)

-- a row is counted at its job
pub counted : (rows : List ReportRow) (i : ℕ) (r : ReportRow) → slice_get rows i ≡ Some r → 0 < how_many_of_job r.job rows
counted [] i r e = absurd (none-some r e)
counted (x ∷ rows) zero r e = grind (arith, common_steps, sum_by-cons, at_job, same_Some, is_one)
counted (x ∷ rows) (suc i) r e = search (rules, counted rows i r e, sum_by-cons, at_job)

-- a row of the job, and its place
pub record Found (j : ℕ) (rows : List ReportRow) : Type 0 where
  pub place : ℕ
  pub row : ReportRow
  pub is : slice_get rows place ≡ Some row
  pub of_job : row.job ≡ j

-- a row of a job that is counted is in the list
pub found_row : (j : ℕ) (rows : List ReportRow) → 0 < how_many_of_job j rows → Found j rows
found_row j [] h = absurd (omega arith)
found_row j (x ∷ rows) h = go (λ some. found_row j rows some) (x.job == j) refl
  where
    go : (0 < how_many_of_job j rows → Found j rows) → (b : Bool) → (x.job == j) ≡ b → Found j (x ∷ rows)
    go rest true e = record { place = 0; row = x; is = refl; of_job = grind (arith, nat_tests, e) }
    go rest false e =
        let c = sum_by-cons (at_job j) x.job (jobs_in rows) in
        let o : at_job j x.job ≡ 0 = ap (λ (b : Bool). cond b 1 0) e in
        let w = rest (omega arith) in record { place = suc w.place; row = w.row; is = w.is; of_job = w.of_job }

pub rows_of-append : (j : ℕ) (xs ys : List ReportRow) → how_many_of_job j (xs ++ ys) ≡ how_many_of_job j xs + how_many_of_job j ys
rows_of-append j xs ys = ap (times j) (map-append (λ (r : ReportRow). r.job) xs ys) ∙ sum_by-append (at_job j) (jobs_in xs) (jobs_in ys)

-- a job's rows of all workers
pub rows_of-rows_in : (j : ℕ) (all : List (Vec ReportRow Global))
    → how_many_of_job j (rows_in all) ≡ sum_by (λ (v : Vec ReportRow Global). how_many_of_job j v.items) all
rows_of-rows_in j [] = refl
rows_of-rows_in j (v ∷ all) = omega (arith, rows_of-rows_in j all, rows_of-append, sum_by-cons)

pub settled_in-rows_in : (all : List (Vec ReportRow Global)) → settled_in (rows_in all) ≡ sum_by (λ (v : Vec ReportRow Global). settled_in v.items) all
settled_in-rows_in [] = refl
settled_in-rows_in (v ∷ all) = search (rules, settled_in-rows_in all, sum_by-append, v.items, sum_by-cons)

-- what holds of each worker's rows holds of all rows
pub all_rows : (P : ReportRow → Type 0) (all : List (Vec ReportRow Global)) → All (λ v. All P v.items) all → (i : ℕ) (r : ReportRow)
    → slice_get (rows_in all) i ≡ Some r → P r
all_rows P [] h i r e = absurd (none-some r e)
all_rows P (v ∷ all) h i r e =
    elim (get_append v.items (rows_in all) i r e) [
      | inl here ↦ subst P (get_or_from_slice_get v.items i r r here) (h 0 v (omega arith) i r (slice_get_within v.items i r here))
      | inr there ↦ all_rows P all (λ k d lt. h (suc k) d (omega arith)) there.0 r there.1
    ]

-- a vector whose slice was written has what was written
pub written : (xs rest : List ReportRow) (n : ℕ) → length xs ≡ n → take n (xs ++ rest) ≡ xs
written xs rest n long = subst (λ (k : ℕ). take k (xs ++ rest) ≡ xs) long (take-append_seam xs rest)

-- a blank row more
pushed_row : (rows : List ReportRow) (x y : ReportRow) (k : ℕ) → slice_get (rows ++ x ∷ []) k ≡ Some y
    → (slice_get rows k ≡ Some y) ⊎ ((k ≡ length rows) × (y ≡ x))
pushed_row [] x y zero h = inr (refl, sym (same_Some x y h))
pushed_row [] x y (suc k) h = absurd (none-some y h)
pushed_row (z ∷ rows) x y zero h = inl h
pushed_row (z ∷ rows) x y (suc k) h = elim (pushed_row rows x y k h) [ inl a ↦ inl a | inr (a, b) ↦ inr (ap suc a, b) ]

pub blank_more : (new rows : List ReportRow) (row : ReportRow) (job : ℕ) → new ≡ rows ++ row ∷ [] → row ≡ blank_row job → length rows ≡ job → AreBlank rows
    → AreBlank new
blank_more new rows row job e blank long h = search (rules, pushed_row)

pub blank_in_order : (rows : List ReportRow) → AreBlank rows → IsInOrder (length rows) rows
blank_in_order rows h = (refl, λ k r e. ap (λ (x : ReportRow). x.job) (h k r e))

pub blank_settled : (rows : List ReportRow) → AreBlank rows → settled_in rows ≡ 0
blank_settled rows h = none_settled rows (λ k r e _. ap (λ (x : ReportRow). x.settled) (h k r e))
