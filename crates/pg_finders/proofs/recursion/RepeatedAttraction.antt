-- A later attraction: which vertices it has to test.
use Rattle.pg_finders.proofs.Common.{◌≡◌, ℕ, suc, false, not, inl, inr, List, [], ◌∷◌, ◌++◌, All, subst, arith}
use Rattle.pg_finders.proofs.Common.{◌==◌, eqb-true, cases_Bool, or_cases, false_from_ne_true, Player}
use Rattle.pg_finders.proofs.Common.{Graph, VertexSet, In, Within, union, Plan, listed}
use Rattle.pg_finders.proofs.Common.{HasTaken, AttractsNoFurther, IsTakenOrOpen}
use Rattle.std.proofs.lemmas.Bool.{not-true}
use Rattle.pg_finders.proofs.Sets.{no_both}
use Rattle.pg_finders.proofs.recursion.ListsAsSets.{prefix_or_rest}
use Rattle.pg_finders.proofs.recursion.AttractionSteps.{grown_active, grown_left, grown_prefix}

-- what is taken or open stays so where more is inside, and more is taken
pub taken_more : (g : Graph) (p : Player) (U U' D N N' : VertexSet) (v : ℕ) → Within U U' → Within N N' → IsTakenOrOpen g p U D N v → IsTakenOrOpen g p U' D N' v
taken_more g p U U' D N N' v a b (inl i) = inl (b v i)
taken_more g p U U' D N N' v a b (inr (inl h)) = inr (inl h)
taken_more g p U U' D N N' v a b (inr (inr (n, h))) = inr (inr (n, (h.0, h.1, a h.0 h.2, h.3)))

-- what holds of all holds of each that is listed
pub all_listed : (P : ℕ → Type 0) (xs : List ℕ) → All P xs → (v : ℕ) → In (listed xs) v → P v
all_listed P [] h v i = absurd (cc i)
all_listed P (x ∷ xs) h v i = elim (or_cases (x == v) (listed xs v) i) [
  | inl y ↦ subst P (eqb-true x v y) (h 0 0 (omega arith))
  | inr y ↦ all_listed P xs (λ k d l. h (suc k) d (omega (arith, l))) v y
]

-- the given vertices are tested, and nothing attracts the others: so the prefix is done
pub tested_done : {g : Graph} {p : Player} {A A' : VertexSet} {old new : Plan} {prefix list : List ℕ} (vertices : List ℕ)
    → HasTaken g p A old prefix A' new list → AttractsNoFurther g p (union A (listed prefix)) (listed prefix) (listed (prefix ++ vertices))
    → ((v : ℕ) → In (listed vertices) v → In A v → IsTakenOrOpen g p (union A (listed prefix)) (listed prefix) (λ u. not (A' u)) v)
    → AttractsNoFurther g p (union A (listed prefix)) (listed prefix) (listed list)
tested_done {g = g} {p = p} {A = A} {A' = A'} {prefix = prefix} {list = list} vertices h rest tested = record {
  own = λ v w u n o e. elim (cases_Bool (listed vertices v)) [
    | inr m ↦ rest.own v w u (out v n m) o e
    | inl y ↦ elim (tested v y (grown_active h v (grown_left h v u n))) [
      | inl k ↦ absurd (no_both (grown_left h v u n) (not-true (A' v) k))
      | inr (inl (q, none)) ↦ none w e
      | inr (inr (q, way)) ↦ absurd (q o)
    ]
  ];
  other = λ v u n o. elim (cases_Bool (listed vertices v)) [
    | inr m ↦ rest.other v u (out v n m) o
    | inl y ↦ elim (tested v y (grown_active h v (grown_left h v u n))) [
      | inl k ↦ absurd (no_both (grown_left h v u n) (not-true (A' v) k))
      | inr (inl (q, none)) ↦ absurd (o q)
      | inr (inr (q, way)) ↦ way
    ]
  ];
}
  where
    out : (v : ℕ) → listed list v ≡ false → listed vertices v ≡ false → listed (prefix ++ vertices) v ≡ false
    out v n m = false_from_ne_true (listed (prefix ++ vertices) v)
        (λ i. elim (prefix_or_rest prefix vertices v i) [ inl a ↦ no_both (grown_prefix h v a) n | inr b ↦ no_both b m ])
