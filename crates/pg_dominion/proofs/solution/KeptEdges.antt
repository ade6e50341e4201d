-- A solution's strategy graph: its leaving edges and its closed walks.
use Rattle.pg_dominion.proofs.Common.{◌≡◌, ℕ, ◌+◌, ◌<◌, ◌≤◌, Bool, true, false, ◌↔◌, inl, inr, List, [], ◌∷◌, length, refl, sym, ◌∙◌, ap, subst}
use Rattle.pg_dominion.proofs.Common.{arith, ltb-true, lt-ltb, rules, Option, Some, None, IfSome, Contains, IsStrictlyIncreasing}
use Rattle.pg_dominion.proofs.Common.{cases_Bool, Player, same_player, Graph, IsGame, HasEdge, owner_of}
use Rattle.pg_dominion.proofs.Common.{successors_of, In, members, kept, NoneHas, edge_inside, same_is, is_same}
use Rattle.pg_dominion.proofs.Common.{winner_of, LacksChoice, HasBadChoice, Leaves, StrategyGraph, Edge, IsOnBadCycle, kept_row, is_bad, IsStrategy}
use Rattle.pg_dominion.proofs.Common.{LeavesTo, sorted_from_strictly_increasing, below_from_sorted}
use Rattle.std.specs.Prelude.{slice_index, nat_lt}
use Rattle.std.proofs.lemmas.Bool.{cases_order}
use Rattle.pg_game.proofs.Members.{Contains-nil, Contains-one, contains_or_not}
use Rattle.pg_game.specs.VertexSet.{all_vertices}
use Rattle.pg_text.specs.Solution.{SolutionRows, choice_of, won_by}
use Rattle.pg_text.specs.Verdict.{IsOnBadWalk}
use Rattle.pg_text.proofs.Verdict.{won}
use Rattle.pg_dominion.specs.KeptEdges.{own_choices, IsKeptWith}
use Rattle.pg_game.specs.Kept.{Choices}
use Rattle.pg_game.proofs.Players.{not_same}
use Rattle.pg_dominion.specs.private.JointStrategy.{IsJointStrategy}
use Rattle.pg_dominion.proofs.SearchSteps.{place_in}
use Rattle.pg_dominion.proofs.Strategies.{below_next, strategy_next, ends_kept, bad_cycle_is_bad_walk}

-- the choice that a winner keeps
abbrev pub own_choice : Graph → SolutionRows → Choices
own_choice g rows v = own_choices g (winner_of rows v) (choice_of rows) v

module _ (g : Graph) (rows : SolutionRows) (lacks : NoneHas (LacksChoice g rows)) (v : ℕ) (l : v < length g) where
  chosen : owner_of g v ≡ winner_of rows v → (c : Option ℕ) → choice_of rows v ≡ c → (w : ℕ) × (choice_of rows v ≡ Some w)
  chosen o None e = absurd (lacks v (l, o, e))
  chosen o (Some w) e = (w, e)

  -- a winner keeps the same, one vertex after another
  pub vertex_is_kept : (k k' : StrategyGraph) → k.game.now ≡ g → IsKeptWith k v (is_bad g (winner_of rows v) v) (own_choice g rows v) k'
      → IsStrategy k (λ x. nat_lt x v) (winner_of rows) (choice_of rows) → IsStrategy k' (λ x. nat_lt x (v + 1)) (winner_of rows) (choice_of rows)
  vertex_is_kept k k' same kept h = strategy_next (λ x. nat_lt x v) (winner_of rows) k k' v (is_bad g (winner_of rows v) v) (own_choice g rows v)
      (λ x. nat_lt x (v + 1)) (choice_of rows) (choice_of rows) kept (below_next v) (λ x n. refl)
      (rw same (ends_kept g (winner_of rows v) (choice_of rows) v (own_choice g rows v)
      (λ o. let c = chosen o (choice_of rows v) refl in (c.0, rw (is_same (owner_of g v) (winner_of rows v) o) c.1, c.1))
      (λ n. rw (not_same (owner_of g v) (winner_of rows v) n) refl)))
      (rw same refl) h

-- the choice that a winner keeps is a vertex
pub own_below : (g : Graph) (rows : SolutionRows) → IsGame g → NoneHas (HasBadChoice g rows) → (v : ℕ) → v < length g → (c : Option ℕ)
    → c ≡ own_choice g rows v → IfSome c (λ w. w < length g)
own_below g rows game wrong v l None e = tt
own_below g rows game wrong v l (Some w) e = elim (cases_Bool (same_player (owner_of g v) (winner_of rows v))) [
  | inl s ↦ (let h : Some w ≡ choice_of rows v = rw s at e in elim (contains_or_not (successors_of g v) w) [
    | inl m ↦ ltb-true w (length g) (edge_inside g game v w l m)
    | inr none ↦ absurd (wrong v (l, same_is (owner_of g v) (winner_of rows v) s, (w, sym h, none)))
  ])
  | inr s ↦ absurd (let h : Some w ≡ None = rw s at e in cc h)
]

module _ (k : StrategyGraph) (rows : SolutionRows) (size : length rows ≡ length k.game.now) where
  abbrev g : Graph
  g = k.game.now

  -- what is kept of a vertex rises
  pub row_rising : (v : ℕ) → v < length g → IsStrictlyIncreasing (kept_row k v)
  row_rising v l = search (rules, k.chosen, k.inside, k.shape.game.successors)

  edge_below : (v w : ℕ) → v < length g → Edge k v w → w < length g
  edge_below v w l m = go (members k.chosen v) (members k.inside v) refl refl
    where
      go : (b c : Bool) → members k.chosen v ≡ b → members k.inside v ≡ c → w < length g
      go true c e f =
          let one : Contains (slice_index k.choices.items v ∷ []) w = rw e at m in rw (← Contains-one (slice_index k.choices.items v) w one) (k.shape.below v e)
      go false true e f = let s : HasEdge g v w = rw (e, f) at m in ltb-true w (length g) (edge_inside g k.shape.game v w l s)
      go false false e f = let n : Contains [] w = rw (e, f) at m in absurd (Contains-nil w n)

  -- each vertex is won by its winner
  is_won : (v : ℕ) → v < length g → In (won_by rows (winner_of rows v)) v
  is_won v l = rw (lt-ltb v (length rows) (omega arith)) (is_same (winner_of rows v) (winner_of rows v) refl)

  module _ (joint : IsJointStrategy k rows) where
    joint_row : (v : ℕ) → v < length g → kept_row k v ≡ kept g (winner_of rows v) (choice_of rows) v
    joint_row v l = joint.rows v ∙ rw (lt-ltb v (length g) l) refl

    pub leaves_from : (v w : ℕ) → v < length g → LeavesTo k rows v w → Leaves g rows v w
    leaves_from v w l h = ((is_won v l, subst (λ (xs : List ℕ). Contains xs w) (joint_row v l) h.0), h.1)

    pub leaves_to : (v w : ℕ) → Leaves g rows v w → (v < length g) × LeavesTo k rows v w
    leaves_to v w h = search (rules, won, joint_row)

    module _ (leaves : (v w : ℕ) → Leaves g rows v w → ⊥) (v : ℕ) where
      stays : (u w : ℕ) → In (won_by rows (winner_of rows v)) u → Edge k u w → In (won_by rows (winner_of rows v)) w
      stays u w i m =
          let h = won g rows size (winner_of rows v) u i in
          let same : winner_of rows w ≡ winner_of rows u = agree (same_player (winner_of rows w) (winner_of rows u)) refl h.0 in
          subst (λ (q : Player). In (won_by rows q) w) (same ∙ h.1) (is_won w (edge_below u w h.0 m))
        where
          agree : (b : Bool) → same_player (winner_of rows w) (winner_of rows u) ≡ b → u < length g → winner_of rows w ≡ winner_of rows u
          agree true e l = same_is (winner_of rows w) (winner_of rows u) e
          agree false e l = absurd (leaves u w (leaves_from u w l (m, λ q. let t = is_same (winner_of rows w) (winner_of rows u) q in cc (t, e))))

      pub bad_cycle_is_on_bad_walk : IsOnBadCycle k v ↔ IsOnBadWalk g rows v
      bad_cycle_is_on_bad_walk = bad_cycle_is_bad_walk k (all_vertices g) (winner_of rows) (choice_of rows) joint (winner_of rows v)
          (won_by rows (winner_of rows v)) (λ u i. let h = won g rows size (winner_of rows v) u i in (lt-ltb u (length g) h.0, h.1))
          (λ u w i e j. stays u w i e) v (λ i. is_won v (ltb-true v (length g) i))

module _ (k : StrategyGraph) (rows : SolutionRows) where
  -- the first in a rising row that leads to the other winner is the least
  pub first_is_least : (v : ℕ) (ws : List ℕ) (i : ℕ) → IsStrictlyIncreasing (kept_row k v) → ws ≡ kept_row k v → i < length ws
      → ((j : ℕ) → j < i → winner_of rows (slice_index ws j) ≡ winner_of rows v) → (x : ℕ) → LeavesTo k rows v x → slice_index ws i ≤ x
  first_is_least v ws i up e l passed x h =
      let q = place_in (kept_row k v) ws x e h.0 in
      let rise : IsStrictlyIncreasing ws = subst (λ (xs : List ℕ). IsStrictlyIncreasing xs) (sym e) up in
      elim (cases_order q.0 i) [
        | inl same ↦ (let a : slice_index ws i ≡ x = ap (slice_index ws) (sym same) ∙ q.2 in omega arith)
        | inr (inl below) ↦ absurd (h.1 (ap (winner_of rows) (sym q.2) ∙ passed q.0 below))
        | inr (inr above) ↦ (let b = below_from_sorted ws i q.0 0 (sorted_from_strictly_increasing ws rise) above q.1 in omega (arith, b, q.2))
      ]
