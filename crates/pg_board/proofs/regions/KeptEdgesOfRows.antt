-- Kept edges of rows, row by row.
use Rattle.pg_board.proofs.Common.{rules, ◌≡◌, ℕ, ◌<◌, ◌≤◌, true, false, inl, inr, List, length, get_or, sym, ◌∙◌, subst, arith, Option}
use Rattle.pg_board.proofs.Common.{None, Contains, cases_lt, sorted_from_strictly_increasing, below_from_sorted}
use Rattle.pg_board.proofs.Common.{IsStrictlyIncreasing, Player, Graph, IsGame, VertexSet, own_or_other, not_own, not_same, ClaimRows, IsRightRow}
use Rattle.pg_board.proofs.Common.{AreRight, EndsOutside, row_at, State, settled, named, union}
use Rattle.std.proofs.Common.{eq-or-lt_of_le}
use Rattle.std.proofs.lemmas.List.{get_or_default}
use Rattle.std.proofs.lemmas.List.Elements.{Contains-get_or}
use Rattle.pg_game.specs.Graph.{successors_of}
use Rattle.pg_game.specs.Kept.{kept}
use Rattle.pg_board.specs.Refusal.{IsOpenEdge}
use Rattle.pg_game.specs.Least.{IsFirstEdge, IsLeast}
use Rattle.pg_dominion.proofs.RowsByPlace.{distinct_rising, named_at, place_at, choice_at, rises}

module _ (g : Graph) (st : State) (p : Player) (rows : ClaimRows) (right : AreRight g p rows) where
  -- where edges may end
  abbrev Inside : VertexSet
  Inside = union (named rows) (settled st p)

  to_row : (i w : ℕ) → i < length rows → IsOpenEdge g st p rows (row_at rows i).0 w → EndsOutside g p Inside (row_at rows i) w
  to_row i w l h = search (rules, h.0.1, h.1, choice_at, distinct_rising, right.rising)

  abbrev NoneUpTo : ℕ → Type 0
  NoneUpTo i = (k w : ℕ) → k < i → EndsOutside g p Inside (row_at rows k) w → ⊥

  placed : (v w : ℕ) → IsOpenEdge g st p rows v w → (i : ℕ) × (i < length rows) × ((row_at rows i).0 ≡ v) × EndsOutside g p Inside (row_at rows i) w
  placed v w h = search (rules, place_at, h.0.0, to_row)

  pub none_outside : (i : ℕ) → length rows ≤ i → NoneUpTo i → (v w : ℕ) → IsOpenEdge g st p rows v w → ⊥
  none_outside i l none v w h = let q = placed v w h in none q.0 w (omega (arith, q.1)) q.3

  pub first_outside : (i w : ℕ) → i < length rows → NoneUpTo i → IsLeast (EndsOutside g p Inside (row_at rows i)) w
      → IsFirstEdge (IsOpenEdge g st p rows) (row_at rows i).0 w
  first_outside i w l none end = record {
    edge = search (rules, named_at, end.has.0, end.has.1, choice_at, distinct_rising, right.rising);
    first = λ u x h. (let q = placed u x h in elim (cases_lt q.0 i) [
      | inl less ↦ absurd (none q.0 x less q.3)
      | inr more ↦ subst (λ (y : ℕ). (row_at rows i).0 ≤ y) q.2 (search (rules, eq-or-lt_of_le, rises))
    ]);
    least = λ x h. end.least x (to_row i x l h);
  }

-- the first successor that is outside ends the first kept edge of a row without a choice
module _ (g : Graph) (game : IsGame g) (p : Player) (S : VertexSet) (r : ℕ × Option ℕ) (right : IsRightRow g p r) (none : r.1 ≡ None) (ws : List ℕ)
    (all : ws ≡ successors_of g r.0) where
  ends_are : kept g p (λ v. r.1) r.0 ≡ ws
  ends_are = search (rules, own_or_other, right.own, not_same, not_own)

  abbrev AllInside : ℕ → Type 0
  AllInside i = (k : ℕ) → k < i → S (get_or ws k 0) ≡ true

  place_of_end : (x : ℕ) → EndsOutside g p S r x → (k : ℕ) × (k < length ws) × (get_or ws k 0 ≡ x)
  place_of_end x h = let q = subst (λ (us : List ℕ). Contains us x) ends_are h.0 in (q.0, q.1, get_or_default ws q.0 0 x q.1 ∙ q.2)

  pub no_successor : (i : ℕ) → length ws ≤ i → AllInside i → (w : ℕ) → EndsOutside g p S r w → ⊥
  no_successor i l inside w h = search (rules, place_of_end, h.1)

  pub first_successor : (i : ℕ) → i < length ws → AllInside i → S (get_or ws i 0) ≡ false → IsLeast (EndsOutside g p S r) (get_or ws i 0)
  first_successor i l inside out = record {
    has = (subst (λ (us : List ℕ). Contains us (get_or ws i 0)) (sym ends_are) (Contains-get_or ws i 0 l), out);
    least = λ x h. least x (place_of_end x h) h.1;
  }
    where
      rising : IsStrictlyIncreasing ws
      rising = subst (λ (us : List ℕ). IsStrictlyIncreasing us) (sym all) (game.successors r.0 right.vertex).rising

      least : (x : ℕ) → (k : ℕ) × (k < length ws) × (get_or ws k 0 ≡ x) → S x ≡ false → get_or ws i 0 ≤ x
      least x (k, m, e) f = search (rules, below_from_sorted, sorted_from_strictly_increasing, rising)
