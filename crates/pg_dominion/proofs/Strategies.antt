-- What a strategy graph keeps: one vertex more, and its bad closed walks.
use Rattle.pg_dominion.proofs.Common.{◌≡◌, ◌≢◌, ℕ, ◌+◌, ◌≤◌, Bool, true, false, ◌&&◌, ◌||◌, ◌↔◌, inl, inr, List, [], ◌∷◌, refl, sym, ◌∙◌, ap, subst, arith}
use Rattle.pg_dominion.proofs.Common.{lt-ltb, ltb-true, rules, or-false, or_left, or_right, false_from_ne_true, Option, Some, None, ◌==◌, if◌then◌else◌, Contains}
use Rattle.pg_dominion.proofs.Common.{eq-eqb, ne_eqb, cases_Bool, cases_eq, Player, same_player, opponent, of_parity, Graph, priority_of, owner_of}
use Rattle.pg_dominion.proofs.Common.{successors_of, VertexSet, In, Choices, kept, KeptEdge, Walk, OnBadWalk, same_is, is_same, ClosedWalk-weaker}
use Rattle.pg_dominion.proofs.Common.{StrategyGraph, Edge, IsOnBadCycle, ends_at, is_bad, IsStrategy}
use Rattle.std.specs.Prelude.{nat_lt}
use Rattle.std.proofs.lemmas.Bool.{and_parts, and_from, cases_order}
use Rattle.pg_game.specs.Kept.{option_list}
use Rattle.pg_dominion.specs.KeptEdges.{KeepsNothing, IsKeptWith}
use Rattle.pg_dominion.proofs.SearchSteps.{starts_in}

pub none_below : (v : ℕ) → nat_lt v 0 ≡ false
none_below v = false_from_ne_true (nat_lt v 0) (λ t. (let h = ltb-true v 0 t in absurd (omega (arith, h))))

-- the vertices before the next one
pub below_next : (v x : ℕ) → nat_lt x (v + 1) ≡ (nat_lt x v || (v == x))
below_next v x = elim (cases_order x v) [
  | inl e ↦ lt-ltb x (v + 1) (omega (arith, e)) ∙ sym (or_right (nat_lt x v) (v == x) (eq-eqb v x (sym e)))
  | inr (inl l) ↦ lt-ltb x (v + 1) (omega (arith, l)) ∙ sym (or_left (nat_lt x v) (v == x) (lt-ltb x v l))
  | inr (inr m) ↦ not_below x (v + 1) (omega (arith, m)) ∙ sym (rw (not_below x v (omega (arith, m)), ne_eqb v x (λ q. absurd (omega (arith, m, q)))) refl)
]
  where
    not_below : (a b : ℕ) → b ≤ a → nat_lt a b ≡ false
    not_below a b l = false_from_ne_true (nat_lt a b) (λ t. (let h = ltb-true a b t in absurd (omega (arith, h, l))))

-- with a choice exactly at the player's vertices, what is kept of one is what he keeps
pub ends_kept : (g : Graph) (p : Player) (s : Choices) (v : ℕ) (c : Option ℕ) → (owner_of g v ≡ p → (w : ℕ) × (c ≡ Some w) × (s v ≡ Some w))
    → (owner_of g v ≢ p → c ≡ None) → ends_at g v c ≡ kept g p s v
ends_kept g p s v c own other = elim (cases_Bool (same_player (owner_of g v) p)) [
  | inl e ↦ (let h = own (same_is (owner_of g v) p e) in rw (e, h.1, h.2) refl)
  | inr e ↦ rw (e, other (λ o. let t = is_same (owner_of g v) p o in cc (t, e))) refl
]

module _ (X : VertexSet) (player_at : ℕ → Player) where
  pub strategy_none : (k : StrategyGraph) (s : Choices) → KeepsNothing k → ((v : ℕ) → X v ≡ false) → IsStrategy k X player_at s
  strategy_none k s none out = record { rows = λ v. rw (out v) (none v).0; bad = λ v. rw (out v) (none v).1 }

  -- the choices may change at the vertex that is kept
  pub strategy_next : (k k' : StrategyGraph) (v : ℕ) (b : Bool) (c : Option ℕ) (X' : VertexSet) (s s' : Choices) → IsKeptWith k v b c k'
      → ((x : ℕ) → X' x ≡ (X x || (v == x))) → ((x : ℕ) → x ≢ v → s' x ≡ s x) → ends_at k.game.now v c ≡ kept k.game.now (player_at v) s' v
      → b ≡ is_bad k.game.now (player_at v) v → IsStrategy k X player_at s → IsStrategy k' X' player_at s'
  strategy_next k k' v b c X' s s' more grows agree fits bad h = record {
    rows = λ x. elim (cases_eq x v) [
      | inl q ↦ rw (q, here) (more.row_is ∙ (fits ∙ ap (λ (y : Graph). kept y (player_at v) s' v) (sym more.game)))
      | inr n ↦ rw (there x n) ((more.others x n).row ∙ (h.rows x
          ∙ (ap (λ o. if X x then (if same_player (owner_of k.game.now x) (player_at x) then option_list o else successors_of k.game.now x) else [])
          (sym (agree x n))
          ∙ ap (λ (y : Graph). if X x then kept y (player_at x) s' x else []) (sym more.game))))
    ];
    bad = λ x. elim (cases_eq x v) [
      | inl q ↦ rw (q, here) (more.bad_is ∙ (bad ∙ ap (λ (y : Graph). is_bad y (player_at v) v) (sym more.game)))
      | inr n ↦ rw (there x n) ((more.others x n).bad ∙ (h.bad x ∙ ap (λ (y : Graph). X x && is_bad y (player_at x) x) (sym more.game)))
    ];
  }
    where
      here : X' v ≡ true
      here = grows v ∙ or_right (X v) (v == v) (eq-eqb v v refl)

      there : (x : ℕ) → x ≢ v → X' x ≡ X x
      there x n = grows x ∙ (ap (λ o. X x || o) (ne_eqb v x (λ q. n (sym q))) ∙ or-false (X x))

module _ (k : StrategyGraph) (X : VertexSet) (player_at : ℕ → Player) (s : Choices) (h : IsStrategy k X player_at s) where
  abbrev g : Graph
  g = k.game.now

  pub to_kept : (v w : ℕ) → Edge k v w → KeptEdge g (player_at v) X s v w
  to_kept v w m = search (rules, h.rows, cases_Bool)

  from_kept : (v w : ℕ) → KeptEdge g (player_at v) X s v w → Edge k v w
  from_kept v w (n, m) = subst (λ (xs : List ℕ). Contains xs w) (sym (h.rows v)) (rw n m)

  begins : (v : ℕ) (vs : List ℕ) (last : ℕ) → Walk (Edge k) v vs last → In X v
  begins v [] last e = (to_kept v last e).0
  begins v (w ∷ ws) last e = (to_kept v w e.0).0

  -- the part of one player, if no kept edge leads out of it
  module _ (p : Player) (Y : VertexSet) (own : (v : ℕ) → In Y v → In X v × (player_at v ≡ p))
      (stays : (v w : ℕ) → In Y v → Edge k v w → In X w → In Y w) where
    edge_to : (v w : ℕ) → In Y v → Edge k v w → KeptEdge g p Y s v w
    edge_to v w i m = (i, subst (λ (q : Player). Contains (kept g q s v) w) (own v i).1 (to_kept v w m).1)

    walk_to : (v : ℕ) (vs : List ℕ) (last : ℕ) → In Y v → Walk (Edge k) v vs last → Walk (KeptEdge g p Y s) v vs last
    walk_to v [] last i e = edge_to v last i e
    walk_to v (w ∷ ws) last i e = (edge_to v w i e.0, walk_to w ws last (stays v w i e.0 (begins w ws last e.1)) e.1)

    edge_from : (v w : ℕ) → KeptEdge g p Y s v w → Edge k v w
    edge_from v w (i, m) = from_kept v w ((own v i).0, subst (λ (q : Player). Contains (kept g q s v) w) (sym (own v i).1) m)

    pub bad_cycle_is_bad_walk : (v : ℕ) → (In X v → In Y v) → IsOnBadCycle k v ↔ OnBadWalk g p Y s v
    bad_cycle_is_bad_walk v into = (
      λ c. (let b = and_parts (X v) (is_bad g (player_at v) v) (sym (h.bad v) ∙ c.0) in
          let i = into b.0 in (
            c.1.0,
            walk_to v c.1.0 v i c.1.1,
            c.1.2,
            same_is (of_parity (priority_of g v)) (opponent p) (subst (λ (q : Player). is_bad g q v ≡ true) (own v i).1 b.1),
          )),
      λ w. (let o = own v (starts_in g p Y s v w.0 v w.1) in (
        h.bad v ∙ and_from (X v) (is_bad g (player_at v) v) o.0
            (subst (λ (q : Player). is_bad g q v ≡ true) (sym o.1) (is_same (of_parity (priority_of g v)) (opponent p) w.3)),
        (w.0, ClosedWalk-weaker (KeptEdge g p Y s) (Edge k) edge_from (v ∷ w.0) w.1, w.2),
      )),
    )

-- where one player has the whole set
pub bad_cycle_of_player : (k : StrategyGraph) (X : VertexSet) (p : Player) (s : Choices) → IsStrategy k X (λ v. p) s → (v : ℕ)
    → IsOnBadCycle k v ↔ OnBadWalk k.game.now p X s v
bad_cycle_of_player k X p s h v = bad_cycle_is_bad_walk k X (λ u. p) s h p X (λ u i. (i, refl)) (λ u w i e j. j) v (λ i. i)
