-- The rows of a set are found by counting its vertices.
use Rattle.pg_workers.proofs.Common.{◌≡◌, ℕ, zero, suc, ◌<◌, true, false, ◌⊎◌, inl, inr, [], ◌∷◌, ◌++◌, length, refl, subst, arith, Some, slice_get}
use Rattle.pg_workers.proofs.Common.{VertexSet, ClaimRows, rows_below}
use Rattle.std.specs.Prelude.{Option}
use Rattle.pg_board.proofs.Common.{cases_lt, cases_Bool, Choices}

slice_front : (xs ys : ClaimRows) (k : ℕ) (r : ℕ × Option ℕ) → slice_get xs k ≡ Some r → slice_get (xs ++ ys) k ≡ Some r
slice_front [] ys k r is = absurd (cc is)
slice_front (x ∷ xs) ys zero r is = is
slice_front (x ∷ xs) ys (suc k) r is = slice_front xs ys k r is

slice_end : (xs : ClaimRows) (r : ℕ × Option ℕ) → slice_get (xs ++ r ∷ []) (length xs) ≡ Some r
slice_end [] r = refl
slice_end (x ∷ xs) r = slice_end xs r

module _ (X : VertexSet) (s : Choices) where
  -- the row of a vertex of the set has as many before it as there are members below the vertex
  pub row_of_vertex : (n v : ℕ) → v < n → X v ≡ true → slice_get (rows_below X s n) (length (rows_below X s v)) ≡ Some (v, s v)
  row_of_vertex zero v lt x = absurd (omega arith)
  row_of_vertex (suc i) v lt x = elim (cases_lt v i) [
    | inl less ↦ later (cases_Bool (X i)) (row_of_vertex i v less x)
    | inr le ↦ here (let e : v ≡ i = omega arith in e)
  ]
    where
      later : (X i ≡ true) ⊎ (X i ≡ false) → slice_get (rows_below X s i) (length (rows_below X s v)) ≡ Some (v, s v)
          → slice_get (rows_below X s (suc i)) (length (rows_below X s v)) ≡ Some (v, s v)
      later (inl y) is = rw y (slice_front (rows_below X s i) ((i, s i) ∷ []) (length (rows_below X s v)) (v, s v) is)
      later (inr n) is = rw n is

      here : v ≡ i → slice_get (rows_below X s (suc i)) (length (rows_below X s v)) ≡ Some (v, s v)
      here e = let y : X i ≡ true = subst (λ (k : ℕ). X k ≡ true) e x in rw (e, y) (slice_end (rows_below X s i) (i, s i))
