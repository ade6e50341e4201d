-- Attracted rows never name a vertex of a region of the opponent.
use Rattle.pg_board.proofs.Common.{rules, ◌≡◌, ℕ, Bool, true, false, inl, inr, [], ◌∷◌, ◌++◌, refl, sym, ◌∙◌, subst, append_assoc, ltb-true, length, eqb-true}
use Rattle.pg_board.proofs.Common.{or_cases, or_left, or_right, append-nil, Player, opponent, same_player, Graph, IsGame, owner_of, edge_inside, VertexSet, In}
use Rattle.pg_board.proofs.Common.{all_vertices, union, Choices, IsRegion, kept_own, kept_other, own_or_other, not_own, is_same, not_same, ClaimRows, named}
use Rattle.pg_board.proofs.Common.{IsAttractedRow, named-push}
use Rattle.std.specs.Prelude.{Option}
use Rattle.pg_dominion.specs.Attraction.{AttractInTurn}

pub differs : (p : Player) (q : Player) → q ≡ p → same_player q (opponent p) ≡ false
differs p q e = not_same q (opponent p) (λ h. not_own p q h e)

module _ (g : Graph) (game : IsGame g) (p : Player) (S V : VertexSet) (s : Choices) (other : IsRegion g (opponent p) V s) where
  -- a row that leads away from the region names none of its vertices
  leads_away : (T : VertexSet) (r : ℕ × Option ℕ) → IsAttractedRow g p (all_vertices g) T r → ((v : ℕ) → In T v → V v ≡ false) → (b : Bool)
      → V r.0 ≡ b → V r.0 ≡ false
  leads_away T r l away false e = e
  leads_away T r l away true e = absurd (elim (own_or_other (owner_of g r.0) p) [
    | inl o ↦ search (rules, l.own, other.closed, kept_other, differs)
    | inr o ↦ (let c = other.choices r.0 e o in
        let i : V c.0 ≡ true = other.closed r.0 c.0 (kept_own g (opponent p) V s r.0 c.0 e (is_same (owner_of g r.0) (opponent p) o) c.1) in
        let f = l.forced (not_own p (owner_of g r.0) o) in
        cc (i, away c.0 (f.1 c.0 c.2 (edge_inside g game r.0 c.0 (ltb-true r.0 (length g) (other.vertices r.0 e)) c.2))))
  ])

  abbrev At : ClaimRows → VertexSet
  At done = union S (named done)

  more : (done : ClaimRows) (r : ℕ × Option ℕ) → ((v : ℕ) → In (At done) v → V v ≡ false) → V r.0 ≡ false → (v : ℕ)
      → In (At (done ++ r ∷ [])) v → V v ≡ false
  more done r away new v i = search (rules, or_cases, or_left, named-push, or_right, eqb-true)

  pub avoid : (rows done rest : ClaimRows) → AttractInTurn g p (all_vertices g) S rows → rows ≡ done ++ rest
      → ((v : ℕ) → In (At done) v → V v ≡ false) → (v : ℕ) → In (At rows) v → V v ≡ false
  avoid rows done [] turns e away v i = away v (subst (λ xs. In (At xs) v) (e ∙ append-nil done) i)
  avoid rows done (r ∷ rest) turns e away v i =
      let new = leads_away (At done) r (turns done rest r e) away (V r.0) refl in
      avoid rows (done ++ r ∷ []) rest turns (e ∙ sym (append_assoc done (r ∷ []) rest)) (more done r away new) v i
