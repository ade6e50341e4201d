-- The choices of an exact solution are vertices, so a writer takes its rows.
use Rattle.pg_text.proofs.Common.{rules, ◌≡◌, ℕ, zero, suc, true, ◌<◌, ◌⊎◌, inl, inr, [], ◌∷◌, length, refl, subst, Option, Some, None, IfSome, nat_lt}
use Rattle.pg_text.proofs.Common.{slice_get, AllByRecursion, get_or_from_slice_get, Player, Even, Graph, IsGame, HasEdge, owner_of, In, is_same, SolutionRows}
use Rattle.pg_text.proofs.Common.{AreSolutionRows, winner_of, choice_of, won_by}
use Rattle.std.proofs.lemmas.Option.{slice_get_within}
use Rattle.pg_game.proofs.Edges.{edge_inside}
use Rattle.pg_text.specs.Solution.{IsExactSolution}

pub edge_below : (g : Graph) → IsGame g → (v w : ℕ) → v < length g → HasEdge g v w → w < length g
edge_below g game v w lt e = let h : nat_lt w (length g) ≡ true = edge_inside g game v w lt e in search rules

pub same_or_not : (p q : Player) → (p ≡ q) ⊎ (p ≡ q → ⊥)
same_or_not x0 x1 = search (rules)

pub chosen_below : (n w : ℕ) (o : Option ℕ) → o ≡ Some w → w < n → IfSome o (λ x. x < n)
chosen_below n w o is lt = rw is lt

pub none_below : (n : ℕ) (o : Option ℕ) → o ≡ None → IfSome o (λ x. x < n)
none_below n o is = rw is tt

own_inside : (rows : SolutionRows) (v : ℕ) → v < length rows → In (won_by rows (winner_of rows v)) v
own_inside rows v lt = let l : nat_lt v (length rows) ≡ true = search rules in rw (l, is_same (winner_of rows v) (winner_of rows v) refl) refl

pub choice_below : (g : Graph) (rows : SolutionRows) → IsGame g → IsExactSolution g rows → (v : ℕ) → v < length rows
    → IfSome (choice_of rows v) (λ w. w < length g)
choice_below g rows game exact v lt =
    let n : v < length g = subst (λ (k : ℕ). v < k) exact.solution.size lt in
    elim (same_or_not (owner_of g v) (winner_of rows v)) [
      | inl e ↦ (let o = (exact.solution.regions (winner_of rows v)).choices v (own_inside rows v lt) e in
          chosen_below (length g) o.0 (choice_of rows v) o.1 (edge_below g game v o.0 n o.2))
      | inr ne ↦ none_below (length g) (choice_of rows v) (exact.choices v n ne)
    ]

rows_by_index : (n : ℕ) (rows : SolutionRows) → ((k : ℕ) (r : Player × Option ℕ) → slice_get rows k ≡ Some r → IfSome r.1 (λ w. w < n))
    → AllByRecursion (λ r. IfSome r.1 (λ w. w < n)) rows
rows_by_index n [] h = tt
rows_by_index n (r ∷ rows) h = (h zero r refl, rows_by_index n rows (λ k x is. h (suc k) x is))

-- what an exact solution gives to the writer of its text
pub exact_rows : (g : Graph) (rows : SolutionRows) → IsGame g → IsExactSolution g rows → AreSolutionRows g rows
exact_rows g rows game exact = record {
  size = exact.solution.size;
  choices = rows_by_index (length g) rows (λ k r is.
      subst (λ (x : Player × Option ℕ). IfSome x.1 (λ w. w < length g)) (get_or_from_slice_get rows k r (Even, None) is)
      (choice_below g rows game exact k (slice_get_within rows k r is)));
}
