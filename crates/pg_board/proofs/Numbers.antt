-- How many vertices a lawful journal settles: at most all, and all exactly where it is full. The same with rows beside it.
use Rattle.pg_board.proofs.Common.{rules, ◌≡◌, ℕ, ◌+◌, ◌<◌, ◌≤◌, true, false, not, List, [], ◌∷◌, ◌++◌, length, take, refl, sym, ◌∙◌, ap, subst, arith}
use Rattle.pg_board.proofs.Common.{ltb-true, length-append, get_or, Option, Some, None, ◌==◌, nat_eq, list_any, nat_eq_equiv, eqb-true, vertices}
use Rattle.pg_board.proofs.Common.{false_from_ne_true, length-map, map-append, IsDistinct-push, length-le_from_distinct_below, take-length, Player, Graph}
use Rattle.pg_board.proofs.Common.{is_same, ClaimRows, named, Entry, is_winner, is_unsettled, IsLawfulState, Journal, state_of, IsLawful, number_settled}
use Rattle.pg_board.proofs.Common.{settled_by, IsDistinct, IsFull, or_cases, Regions, IsBoard}
use Rattle.pg_board.specs.Board.{IsLawfulBoard}
use Rattle.std.proofs.lemmas.Bool.{true_from_ne_false}
use Rattle.std.proofs.lemmas.List.Sums.{sum_by_more_le}
use Rattle.std.proofs.lemmas.List.Filters.{sum_by-filter_both}
use Rattle.std.proofs.lemmas.List.Folds.{list_any-append}
use Rattle.std.proofs.lemmas.List.Concat.{length-flat_map}
use Rattle.std.proofs.lemmas.Map.Steps.{le-length_from_below}
use Rattle.pg_board.proofs.Distinct.{AllRows, distinct-append, each_settled, each_named}
use Rattle.pg_dominion.proofs.RowsByPlace.{in_vertices}

pub lawful_now : (g : Graph) (j : Journal) → IsLawful g j → IsLawfulState g (state_of j)
lawful_now g j lawful = subst (λ xs. IsLawfulState g (state_of xs)) (take-length j) (lawful.states (length j) (omega arith))

abbrev pub settled_list : Journal → List ℕ
settled_list j = vertices (AllRows j)

pub number_is : (j : Journal) → number_settled j ≡ length (settled_list j)
number_is j = sym (length-map (AllRows j) (λ (r : ℕ × Option ℕ). r.0) ∙ length-flat_map (λ (e : Entry). e.rows) j)

-- the rows name the settled vertices
pub settled_vertices : (j : Journal) (v : ℕ) → list_any (nat_eq v) (settled_list j) ≡ not (is_unsettled (state_of j v))
settled_vertices [] v = refl
settled_vertices (e ∷ es) v = search (rules, settled_vertices es v, map-append, list_any-append, in_vertices)

pub whose : (o : Option (Player × Option ℕ)) → not (is_unsettled o) ≡ true → (p : Player) × (is_winner p o ≡ true)
whose None h = absurd (cc h)
whose (Some r) h = (r.0, is_same r.0 r.0 refl)

module _ (g : Graph) (j : Journal) (lawful : IsLawful g j) where
  pub below : (q : ℕ) → list_any (nat_eq q) (settled_list j) ≡ true → q < length g
  below q i =
      let w = whose (state_of j q) (sym (settled_vertices j q) ∙ i) in
      ltb-true q (length g) (((lawful_now g j lawful).regions w.0).vertices q w.1)

  pub number_within : number_settled j ≤ length g
  number_within = let h = length-le_from_distinct_below (settled_list j) (length g) lawful.once below in omega (arith, number_is j)

  unsettled_none : number_settled j ≡ length g → (v : ℕ) → v < length g → is_unsettled (state_of j v) ≡ true → ⊥
  unsettled_none n v l u =
      let fresh : list_any (nat_eq v) (settled_list j) ≡ false = settled_vertices j v ∙ ap not u in
      let more = length-le_from_distinct_below (settled_list j ++ v ∷ []) (length g) (IsDistinct-push nat_eq_equiv (settled_list j) v lawful.once fresh) one_more in
      omega (arith, number_is j, length-append (settled_list j) (v ∷ []))
    where
      one_more : (q : ℕ) → list_any (nat_eq q) (settled_list j ++ v ∷ []) ≡ true → q < length g
      one_more q i = search (rules, list_any-append, below, eqb-true)

  pub full_from_number : number_settled j ≡ length g → IsFull g (state_of j)
  full_from_number n v l = false_from_ne_true (is_unsettled (state_of j v)) (unsettled_none n v l)

  pub number_from_full : IsFull g (state_of j) → number_settled j ≡ length g
  number_from_full full = search (rules, le-length_from_below, settled_vertices, number_within, number_is)

-- what a board stores is a lawful board
pub lawful_board : (g : Graph) (j : Journal) (r : Regions) (n : ℕ) → IsBoard g j r n → IsLawfulBoard (record { graph = g; journal = j })
lawful_board g j r n b = record { game = b.game; limits = b.limits; lawful = b.lawful; within = number_within g j b.lawful }

-- what one worker's entries settle so far, with one more entry
pub more_settled_by : (j : Journal) (worker i : ℕ) (e : Entry) → i < length j → e ≡ get_or j i e
    → settled_by (take i j) worker + length e.rows ≤ number_settled j
more_settled_by j worker i e l same =
    let both = sum_by-filter_both (λ (x : Entry). x.worker == worker) (λ x. not (x.worker == worker)) (λ x. refl) (λ x. length x.rows) (take i j) in
    let more = sum_by_more_le (λ (x : Entry). length x.rows) j i e l in
    let at : length e.rows ≡ length (get_or j i e).rows = ap (λ (x : Entry). length x.rows) same in
    omega (arith, both, more, at)

-- rows of unsettled vertices beside what is settled
module _ (g : Graph) (j : Journal) (lawful : IsLawful g j) (R : ClaimRows) (distinct : IsDistinct nat_eq (vertices R))
    (unsettled_at : (v : ℕ) → named R v ≡ true → (v < length g) × (is_unsettled (state_of j v) ≡ true)) where
  abbrev Both : List ℕ
  Both = settled_list j ++ vertices R

  both_distinct : IsDistinct nat_eq Both
  both_distinct = distinct-append (λ v. is_unsettled (state_of j v)) (settled_list j) (vertices R) lawful.once distinct (each_settled j)
      (each_named (λ v. is_unsettled (state_of j v) ≡ true) R (λ v i. (unsettled_at v i).1))

  both_below : (q : ℕ) → list_any (nat_eq q) Both ≡ true → q < length g
  both_below q i = search (rules, list_any-append, or_cases, below g j lawful, in_vertices, unsettled_at)

  pub sum_fits : number_settled j + length R ≤ length g
  sum_fits =
      let h = length-le_from_distinct_below Both (length g) both_distinct both_below in
      omega (arith, h, number_is j, length-append (settled_list j) (vertices R), length-map R (λ (r : ℕ × Option ℕ). r.0))

  not_named : number_settled j + length R ≡ length g → (v : ℕ) → v < length g → is_unsettled (state_of j v) ≡ true → named R v ≡ false → ⊥
  not_named n v l u out =
      let fresh : list_any (nat_eq v) Both ≡ false = search (rules, list_any-append, settled_vertices j v, in_vertices R v, u, out) in
      let more = length-le_from_distinct_below (Both ++ v ∷ []) (length g) (IsDistinct-push nat_eq_equiv Both v both_distinct fresh) one_more in
      omega (arith, number_is j, length-append Both (v ∷ []), length-append (settled_list j) (vertices R), length-map R (λ (r : ℕ × Option ℕ). r.0))
    where
      one_more : (q : ℕ) → list_any (nat_eq q) (Both ++ v ∷ []) ≡ true → q < length g
      one_more q i = search (rules, list_any-append, both_below, eqb-true)

  -- where they are all vertices, each unsettled one is in the rows
  pub all_named : number_settled j + length R ≡ length g → (v : ℕ) → v < length g → is_unsettled (state_of j v) ≡ true → named R v ≡ true
  all_named n v l u = true_from_ne_false (named R v) (not_named n v l u)
