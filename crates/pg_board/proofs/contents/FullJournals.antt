-- The state of a full journal is a solution.
use Rattle.pg_board.proofs.Common.{rules, ◌≡◌, ℕ, zero, suc, ◌<◌, Bool, true, false, inl, inr, [], ◌∷◌, ◌++◌, length, refl, sym, ◌∙◌, ap, subst, arith, lt-ltb}
use Rattle.pg_board.proofs.Common.{ltb-true, Option, Some, None, nat_lt, slice_get, if◌then◌else◌, fun_ext, false_from_ne_true, cases_Bool, take-append-drop}
use Rattle.pg_board.proofs.Common.{Player, Even, opponent, Graph, owner_of, VertexSet, IsRegion, Wins, own_or_other, is_same, IsExactSolution, named}
use Rattle.pg_board.proofs.Common.{choice_in, named_right, named-append, choice-front, choice-back, place_of, Entry, is_winner, choice_in_row, State, settled}
use Rattle.pg_board.proofs.Common.{choices, Journal, state_of, claimed_rows, attracted_rows, IsLawful, AreStateRows}
use Rattle.std.proofs.Common.{◌≢◌}
use Rattle.std.proofs.lemmas.Option.{slice_get-get_or}
use Rattle.pg_text.specs.Solution.{winner_of, choice_of, won_by, SolutionRows as Solved}
use Rattle.pg_board.proofs.PushedEntry.{region_same}
use Rattle.pg_board.proofs.Numbers.{lawful_now}
use Rattle.pg_board.proofs.Dominion.{disjoint_for}

-- the entry that settled a vertex
pub record Settling (j : Journal) (v : ℕ) (r : Player × Option ℕ) : Type 0 where
  pub at : ℕ
  pub entry : Entry
  pub found : slice_get j at ≡ Some entry
  pub names : named entry.rows v ≡ true
  pub said : (entry.player, choice_in entry.rows v) ≡ r

settling : (j : Journal) (v : ℕ) (r : Player × Option ℕ) → state_of j v ≡ Some r → Settling j v r
settling [] v r e = absurd (cc e)
settling (x ∷ xs) v r e = go (named x.rows v) refl e (settling xs v r)
  where
    go : (b : Bool) → named x.rows v ≡ b → (if b then Some (x.player, choice_in x.rows v) else state_of xs v) ≡ Some r
        → (state_of xs v ≡ Some r → Settling xs v r) → Settling (x ∷ xs) v r
    go true n h later = record { at = zero; entry = x; found = refl; names = n; said = cc h }
    go false n h later = (let q = later h in record { at = suc q.at; entry = q.entry; found = q.found; names = q.names; said = q.said })

module _ (g : Graph) (j : Journal) (lawful : IsLawful g j) where
  abbrev st : State
  st = state_of j

  -- there is no choice where the winner is not the owner
  entry_none : (k : ℕ) (e : Entry) → slice_get j k ≡ Some e → (v : ℕ) → named e.rows v ≡ true → owner_of g v ≢ e.player
      → choice_in e.rows v ≡ None
  entry_none k e at v i other = go (named (claimed_rows e) v) refl
    where
      split : e.rows ≡ claimed_rows e ++ attracted_rows e
      split = sym (take-append-drop e.claimed e.rows)

      forced : (n : named (attracted_rows e) v ≡ true) → choice_in (attracted_rows e) v ≡ None
      forced n = (let q = place_of (attracted_rows e) v n in
          q.chosen ∙ (((lawful.answered k e at).turns q.before q.after (v, q.choice) q.split).forced other).0)

      go : (b : Bool) → named (claimed_rows e) v ≡ b → choice_in e.rows v ≡ None
      go b n = search (rules, (lawful.good k e at).sound.shape.right.each, split, choice-front, named_right, lawful.good, choice-back, forced, named-append)

  others_none : (v : ℕ) (r : Player × Option ℕ) → st v ≡ Some r → owner_of g v ≢ r.0 → r.1 ≡ None
  others_none v r e other = search (rules, settling, entry_none, settling j v r e)

  module _ (rows : Solved) (are : AreStateRows g st rows) where
    said : (v : ℕ) → v < length g → st v ≡ Some (winner_of rows v, choice_of rows v)
    said v l = sym (are.each v l) ∙ slice_get-get_or rows v (Even, None) (omega (arith, are.size))

    won : (p : Player) → settled st p ≡ won_by rows p
    won p = fun_ext (λ v. elim (cases_Bool (nat_lt v (length g))) [
      | inl e ↦ rw (are.size, e) (ap (is_winner p) (said v (ltb-true v (length g) e)))
      | inr e ↦ rw (are.size, e) (false_from_ne_true (settled st p v) (λ t. (let i = ((lawful_now g j lawful).regions p).vertices v t in cc (i, e))))
    ])

    regions : (p : Player) → IsRegion g p (won_by rows p) (choice_of rows)
    regions p = subst (λ (X : VertexSet). IsRegion g p X (choice_of rows)) (won p)
        (region_same g p (settled st p) (choices st) (choice_of rows)
        (λ v i. sym (ap choice_in_row (said v (ltb-true v (length g) (((lawful_now g j lawful).regions p).vertices v i)))))
        ((lawful_now g j lawful).regions p))

    winner_wins : (p : Player) (v : ℕ) → v < length g → winner_of rows v ≡ p → Wins g p v
    winner_wins p v l e = record {
      vertices = won_by rows p;
      choices = choice_of rows;
      region = regions p;
      inside = rw (are.size, lt-ltb v (length g) l, e) (is_same p p refl);
    }

    wins_winner : (p : Player) (v : ℕ) → v < length g → Wins g p v → winner_of rows v ≡ p
    wins_winner p v l w =
        elim (own_or_other (winner_of rows v) p) [ inl e ↦ e | inr e ↦ absurd (disjoint_for g p v w (winner_wins (opponent p) v l e)) ]

    pub exact_solution : IsExactSolution g rows
    exact_solution = search (rules, are.size, regions, others_none, said, winner_wins, wins_winner)
