-- Winners and choices without a fault are a solution, and a solution has no fault.
use Rattle.pg_text.proofs.Common.{◌≡◌, ℕ, ◌<◌, Bool, true, false, inl, inr, List, [], ◌∷◌, length, lt-ltb, refl, sym, ◌∙◌, subst, arith, rules, Option}
use Rattle.pg_text.proofs.Common.{Some, None, ltb-true, is_same, Player, same_player, Graph, HasEdge, owner_of, successors_of, In}
use Rattle.pg_text.proofs.Common.{NoneHas, SolutionRows, winner_of, choice_of, won_by, IsSolution, LacksChoice, HasBadChoice, Leaves, IsOnBadWalk}
use Rattle.std.proofs.lemmas.Bool.{and_parts}
use Rattle.pg_game.proofs.Players.{same_is}
use Rattle.pg_game.specs.Kept.{KeptEdge}
use Rattle.pg_game.specs.Walk.{ClosedWalk}
use Rattle.pg_game.specs.Region.{OnBadWalk}
use Rattle.pg_game.proofs.Members.{contains_or_not}
use Rattle.pg_game.proofs.Rotate.{good_from_none}

module _ (g : Graph) (rows : SolutionRows) (size : length rows ≡ length g) where
  -- a vertex of the player's set is one of the game, and he is its winner
  pub won : (p : Player) (v : ℕ) → In (won_by rows p) v → (v < length g) × (winner_of rows v ≡ p)
  won p v i = search (rules, and_parts, ltb-true, same_is)

  choice_cases : (v : ℕ) → v < length g → owner_of g v ≡ winner_of rows v → NoneHas (LacksChoice g rows) → NoneHas (HasBadChoice g rows) → (c : Option ℕ)
      → choice_of rows v ≡ c → (w : ℕ) × (choice_of rows v ≡ Some w) × HasEdge g v w
  choice_cases v l o lacks bad None e = absurd (lacks v (l, o, e))
  choice_cases v l o lacks bad (Some w) e = elim (contains_or_not (successors_of g v) w) [
    | inl m ↦ (w, e, m)
    | inr none ↦ absurd (bad v (l, o, (w, e, none)))
  ]

  module _ (edges : (v w : ℕ) → v < length g → HasEdge g v w → w < length g) (lacks : NoneHas (LacksChoice g rows)) (bad : NoneHas (HasBadChoice g rows))
      (leaves : (v w : ℕ) → Leaves g rows v w → ⊥) (on_walk : NoneHas (IsOnBadWalk g rows)) where
    choice_is : (p : Player) (v : ℕ) → In (won_by rows p) v → owner_of g v ≡ p → (w : ℕ) × (choice_of rows v ≡ Some w) × HasEdge g v w
    choice_is p v i o = let h = won p v i in choice_cases v h.0 (o ∙ sym h.1) lacks bad (choice_of rows v) refl

    -- a kept edge is an edge
    kept_edge : (p : Player) (v w : ℕ) → KeptEdge g p (won_by rows p) (choice_of rows) v w → HasEdge g v w
    kept_edge p v w (i, m) = search (rules, choice_is, same_is)

    -- the winner of a vertex that the player wins is the player
    as_winner : (p : Player) (v w : ℕ) → winner_of rows v ≡ p → KeptEdge g p (won_by rows p) (choice_of rows) v w
        → KeptEdge g (winner_of rows v) (won_by rows (winner_of rows v)) (choice_of rows) v w
    as_winner p v w e k = subst (λ q. KeptEdge g q (won_by rows q) (choice_of rows) v w) (sym e) k

    stays : (p : Player) (v w : ℕ) → KeptEdge g p (won_by rows p) (choice_of rows) v w → In (won_by rows p) w
    stays p v w k = go (same_player (winner_of rows w) p) refl
      where
        go : (b : Bool) → same_player (winner_of rows w) p ≡ b → In (won_by rows p) w
        go true e =
            let l : w < length rows = omega (arith, edges v w (won p v k.0).0 (kept_edge p v w k)) in
            rw (lt-ltb w (length rows) l) e
        go false e = absurd (let h = won p v k.0 in leaves v w (as_winner p v w h.1 k, λ q. cc (e, is_same (winner_of rows w) p (q ∙ h.1))))

    on_first : (p : Player) (v : ℕ) (vs : List ℕ) → ClosedWalk (KeptEdge g p (won_by rows p) (choice_of rows)) (v ∷ vs) → In (won_by rows p) v
    on_first p v [] c = c.0
    on_first p v (w ∷ ws) c = c.0.0

    pub solution_from_no_fault : IsSolution g rows
    solution_from_no_fault = record {
      size = size;
      regions = λ p. record {
        vertices = λ v i. lt-ltb v (length g) (won p v i).0;
        choices = choice_is p;
        closed = stays p;
        good = good_from_none g p (won_by rows p) (choice_of rows)
            (λ v b. on_walk v (subst (λ q. OnBadWalk g q (won_by rows q) (choice_of rows) v) (sym (won p v (on_first p v b.0 b.1)).1) b));
      };
    }
