-- A subgame where one player has no choice: what the other wins by a closed walk, and that without one all is his who has no choice.
use Rattle.pg_finders.proofs.Common.{rules, ◌≡◌, ◌≢◌, ℕ, ◌+◌, ◌<◌, ◌≤◌, Bool, true, false, ◌&&◌, ◌||◌, inl, inr, List, [], ◌∷◌, length, refl, sym, ◌∙◌, ap}
use Rattle.pg_finders.proofs.Common.{subst, arith, fun_ext, Option, Some, None, IfOk, IfSome, IsNone, ◌==◌, Contains, Player, Even, Odd, same_player}
use Rattle.pg_finders.proofs.Common.{opponent, of_parity, Graph, HasEdge, owner_of, priority_of, successors_of, VertexSet, In, members, KeptEdge, Walk}
use Rattle.pg_finders.proofs.Common.{ClosedWalk, greatest_priority, NoneHas, OnlyGoodWalks, some_or_none, good_from_none, same_is, is_same}
use Rattle.pg_finders.proofs.Common.{Claim, StrategyGraph, ClaimRows, named, IsGoodIn, IsOnBadCycle, IsSolitaire, WinsOn, own_choices, rows_below, HasOneAt}
use Rattle.pg_finders.proofs.Common.{IsSingle, IsForcedBelow, Choices, kept, cases_eq, choices_by, EdgeBelow, AreLeading, eqb-true, eq-eqb}
use Rattle.std.proofs.Common.{eqb}
use Rattle.std.proofs.Math.Bool.{or-false, and-false}
use Rattle.std.proofs.lemmas.Bool.{lt-ltb}
use Rattle.std.specs.Prelude.{Result, slice_index, nat_lt}
use Rattle.std.specs.declared.alloc.AllocError.{AllocError}
use Rattle.pg_dominion.specs.KeptEdges.{Edge, IsStrategy, KeepsNothing, IsKeptWith, kept_choice, ends_at, is_bad}
use Rattle.pg_dominion.proofs.Strategies.{none_below, below_next, strategy_none, strategy_next, ends_kept, to_kept, bad_cycle_of_player}
use Rattle.pg_finders.specs.Finding.{HasOneSuccessor}
use Rattle.pg_finders.proofs.Sets.{twice}
use Rattle.pg_finders.proofs.ClosedWalks.{Among, closed_among, closed_inside, closed_begins, never_falls, greatest_reached}
use Rattle.pg_finders.proofs.SolvedSubgames.{kept_leads, choice_leads}
use Rattle.pg_finders.proofs.GoodClaims.{Holds-own, rows_named, good_rows}

-- among the first successors, up to this number, the single one in the set; none if none of them is in it
abbrev pub SingleSoFar : Graph → VertexSet → ℕ → ℕ → Option ℕ → Type 0
SingleSoFar g U v i None = (k : ℕ) → k < i → U (slice_index (successors_of g v) k) ≡ false
SingleSoFar g U v i (Some x) = HasEdge g v x × In U x × ((k : ℕ) → k < i → In U (slice_index (successors_of g v) k) → slice_index (successors_of g v) k ≡ x)

-- what is single is one
pub one_from_single : (g : Graph) (U : VertexSet) (v : ℕ) (o : Option ℕ) → (IsNone o → ⊥) → IfSome o (λ w. IsSingle g U v w) → HasOneAt g U v
one_from_single g x1 v x3 some h = search (rules)

-- what is found is single, if something is found
pub some_single : (g : Graph) (U : VertexSet) (v : ℕ) (o : Option ℕ) → IfSome o (λ w. IsSingle g U v w) → (IsNone o → ⊥)
    → (w : ℕ) × (o ≡ Some w) × IsSingle g U v w
some_single g U v None found some = absurd (some (search rules))
some_single g U v (Some w) found some = (w, refl, found)

-- the rows of a set that a player holds are a good claim
pub held_good : (g : Graph) (U : VertexSet) (p : Player) (X : VertexSet) (next : List ℕ) → ((v : ℕ) → In U v → v < length g)
    → WinsOn g U p X (choices_by next) → (v : ℕ) → In X v → IsGoodIn g U p (rows_below X (own_choices g p (choices_by next)) (length g))
held_good g U p X next below held v i =
    good_rows g U p X (choices_by next) held below (some (rows_below X (own_choices g p (choices_by next)) (length g))
    (rows_named g U p X (choices_by next) held below v ∙ i))
  where
    some : (rows : ClaimRows) → In (named rows) v → 0 < length rows
    some [] m = absurd (cc m)
    some (r ∷ rows) m = omega arith

-- the vertices of the set before the next one
below_in : (U : VertexSet) (v : ℕ) → In U v → (x : ℕ) → (nat_lt x (v + 1) && U x) ≡ ((nat_lt x v && U x) || (v == x))
below_in U v i x = rw (below_next v x) (go (nat_lt x v) (v == x) refl)
  where
    in_it : (v == x) ≡ true → U x ≡ true
    in_it q = subst (In U) (eqb-true v x q) i

    go : (a e : Bool) → (v == x) ≡ e → ((a || e) && U x) ≡ ((a && U x) || e)
    go true true q = rw (in_it q) refl
    go true false q = sym (or-false (U x))
    go false true q = in_it q
    go false false q = refl

below_out : (U : VertexSet) (v : ℕ) → U v ≡ false → (x : ℕ) → (nat_lt x (v + 1) && U x) ≡ (nat_lt x v && U x)
below_out U v o x = rw (below_next v x) (go (nat_lt x v) (v == x) refl)
  where
    go : (a e : Bool) → (v == x) ≡ e → ((a || e) && U x) ≡ (a && U x)
    go a false q = ap (λ b. b && U x) (or-false a)
    go a true q = let f : U x ≡ false = subst (λ y. U y ≡ false) (eqb-true v x q) o in
        rw f (and-false (a || true) ∙ sym (and-false a))

-- the edges of the player's subgame, one vertex after another
module _ (g : Graph) (U : VertexSet) (q : Player) where
  pub forced_none : (k : StrategyGraph) → k.game.now ≡ g → KeepsNothing k → IsForcedBelow g U q 0 k
  forced_none k same none = record {
    game = same;
    strategy = strategy_none (λ v. nat_lt v 0 && U v) (λ v. q) k (kept_choice k) none (λ v. ap (λ b. b && U v) (none_below v));
    single = λ v l. absurd (omega (arith, l));
  }

  module _ (v : ℕ) where
    pub forced_next : (k k' : StrategyGraph) (b : Bool) (c : Option ℕ) → In U v → b ≡ is_bad g q v → IsKeptWith k v b c k'
        → (owner_of g v ≡ q → (w : ℕ) × (c ≡ Some w) × IsSingle g U v w) → (owner_of g v ≢ q → c ≡ None)
        → IsForcedBelow g U q v k → IsForcedBelow g U q (v + 1) k'
    forced_next k k' b c i bad more own other h = record {
      game = more.game ∙ h.game;
      strategy = strategy_next (λ x. nat_lt x v && U x) (λ x. q) k k' v b c (λ x. nat_lt x (v + 1) && U x) (kept_choice k) (kept_choice k') more
          (below_in U v i) (λ x n. (more.others x n).choice)
          (subst (λ (y : Graph). ends_at y v c ≡ kept y q (kept_choice k') v) (sym h.game)
          (ends_kept g q (kept_choice k') v c (λ o. let s = own o in (s.0, s.1, more.choice_is ∙ s.1)) other))
          (subst (λ (y : Graph). b ≡ is_bad y q v) (sym h.game) bad) h.strategy;
      single = λ x l j o. elim (cases_eq x v) [
        | inl e ↦ (let s = own (subst (λ (y : ℕ). owner_of g y ≡ q) e o) in rw e (s.0, more.choice_is ∙ s.1, s.2))
        | inr n ↦ (let s = h.single x (omega (arith, l, n)) j o in (s.0, (more.others x n).choice ∙ s.1, s.2))
      ];
    }

    pub forced_skip : (k : StrategyGraph) → U v ≡ false → IsForcedBelow g U q v k → IsForcedBelow g U q (v + 1) k
    forced_skip k out h = record {
      game = h.game;
      strategy = subst (λ (X : VertexSet). IsStrategy k X (λ x. q) (kept_choice k)) (sym (fun_ext (below_out U v out))) h.strategy;
      single = λ x l j o. elim (cases_eq x v) [
        | inl e ↦ absurd (let z : U x ≡ false = subst (λ (y : ℕ). U y ≡ false) (sym e) out in cc (z, j))
        | inr n ↦ h.single x (omega (arith, l, n)) j o
      ];
    }

    -- each choice is a vertex
    pub forced_below : (c : Option ℕ) → ((x : ℕ) → In U x → x < length g) → (owner_of g v ≡ q → (w : ℕ) × (c ≡ Some w) × IsSingle g U v w)
        → (owner_of g v ≢ q → c ≡ None) → IfSome c (λ w. w < length g)
    forced_below None below own other = tt
    forced_below (Some w) below own other = go (same_player (owner_of g v) q) refl
      where
        go : (b : Bool) → same_player (owner_of g v) q ≡ b → w < length g
        go true e = let h = own (same_is (owner_of g v) q e) in
            subst (λ (x : ℕ). x < length g) (let z : h.0 ≡ w = cc h.1 in z) (below h.0 h.2.inside)
        go false e = absurd (let z : Some w ≡ None = other (λ o. let t = is_same (owner_of g v) q o in cc (t, e)) in cc z)

-- the player's choices are the single successors of his vertices in the set
abbrev HasSingles : StrategyGraph → VertexSet → Player → Type 0
HasSingles k U q = (v : ℕ) → In U v → owner_of k.game.now v ≡ q → (w : ℕ) × (kept_choice k v ≡ Some w) × IsSingle k.game.now U v w

module _ (G : Graph) (k : StrategyGraph) (U : VertexSet) (q : Player) (inside : (v : ℕ) → In U v → v < length G) (f : IsForcedBelow G U q (length G) k) where
  abbrev g : Graph
  g = k.game.now

  h : IsStrategy k U (λ v. q) (kept_choice k)
  h = subst (λ (X : VertexSet). IsStrategy k X (λ x. q) (kept_choice k)) (fun_ext (λ v. whole v (U v) refl)) f.strategy
    where
      whole : (v : ℕ) (b : Bool) → U v ≡ b → (nat_lt v (length G) && U v) ≡ U v
      whole v true e = ap (λ a. a && U v) (lt-ltb v (length G) (inside v e))
      whole v false e = rw e (and-false (nat_lt v (length G)))

  single : HasSingles k U q
  single = subst (λ (x : Graph). (v : ℕ) → In U v → owner_of x v ≡ q → (w : ℕ) × (kept_choice k v ≡ Some w) × IsSingle x U v w) (sym f.game)
      (λ v i. f.single v (inside v i) i)

  listed : (v w : ℕ) → kept_choice k v ≡ Some w → choices_by k.choices.items v ≡ kept_choice k v
  listed v w e = go (members k.chosen v) refl
    where
      go : (b : Bool) → members k.chosen v ≡ b → choices_by k.choices.items v ≡ kept_choice k v
      go true c = rw c refl
      go false c = absurd (let z : None ≡ Some w = rw c at e in cc z)

  -- without a bad closed walk all vertices are his
  pub all_held : NoneHas (IsOnBadCycle k) → WinsOn g U q U (choices_by k.choices.items)
  all_held none = Holds-own g U q U (kept_choice k) (choices_by k.choices.items) (λ v i o. let c = single v i o in listed v c.0 c.1) record {
    within = λ v i. i;
    choices = λ v i o. (let c = single v i o in (c.0, c.1, c.2.edge, c.2.inside));
    closed = λ v w i o e u. u;
    good = good_from_none g q U (kept_choice k) (λ v b. none v ((bad_cycle_of_player k U q (kept_choice k) h v).1 b));
  }

  edge_of : (v w : ℕ) → Edge k v w → HasEdge g v w × In U v
  edge_of v w m =
      let e = to_kept k U (λ x. q) (kept_choice k) h v w m in
      elim (kept_leads g q (kept_choice k) v w e.1) [
        | inl (o, c) ↦ (let s = single v e.0 o in (subst (λ x. HasEdge g v x) (choice_leads (kept_choice k v) s.0 w s.1 c) s.2.edge, e.0))
        | inr (o, e') ↦ (e', e.0)
      ]

  walk_below : (top v : ℕ) (ws : List ℕ) (end : ℕ) → Walk (Edge k) v ws end → priority_of g v ≤ top → greatest_priority g ws ≤ top
      → Walk (EdgeBelow g U top) v ws end
  walk_below top v [] end e l m = (let h = edge_of v end e in (h.0, h.1, l))
  walk_below top v (w ∷ ws) end e l m = (let h = edge_of v w e.0 in ((h.0, h.1, l), walk_below top w ws end e.1 (omega (arith, m)) (omega (arith, m))))

  -- what a bad closed walk says of its greatest vertex
  pub bad_cycle_leads : (v : ℕ) → IsOnBadCycle k v → (vs : List ℕ) × Walk (EdgeBelow g U (priority_of g v)) v vs v
  bad_cycle_leads v b = (b.1.0, walk_below (priority_of g v) v b.1.0 v b.1.1 (omega arith) (omega (arith, b.1.2)))

  pub bad_cycle_parity : (v : ℕ) → IsOnBadCycle k v → of_parity (priority_of g v) ≡ opponent q
  bad_cycle_parity v b = ((bad_cycle_of_player k U q (kept_choice k) h v).0 b).3

module _ (g : Graph) (U : VertexSet) (q : Player) (one : HasOneSuccessor g U q) (goal : ℕ) (taken : List Bool) (next : List ℕ)
    (lead : AreLeading g U (priority_of g goal) goal taken next) (there : In (members taken) goal) (parity : of_parity (priority_of g goal) ≡ opponent q) where
  abbrev p : Player
  p = opponent q

  abbrev T : VertexSet
  T = members taken

  abbrev choices : Choices
  choices = choices_by next

  -- the edges that the choices keep among the vertices taken
  abbrev Inner : ℕ → ℕ → Type 0
  Inner = Among (KeptEdge g p T choices) (In T)

  next_taken : (v : ℕ) → In T v → In T (slice_index next v)
  next_taken v i = elim (lead.nearer v i) [ inl e ↦ subst (In T) (sym e) there | inr h ↦ h.0 ]

  follows_next : (v w : ℕ) → Inner v w → slice_index next v ≡ w
  follows_next v w (e, i, j) = elim (kept_leads g p choices v w e.1) [
    | inl (o, c) ↦ choice_leads (Some (slice_index next v)) (slice_index next v) w refl c
    | inr (o, m) ↦ (let h = lead.edge v i in
        one v (slice_index next v) w h.1 (o ∙ twice q) h.0 (lead.edge (slice_index next v) (next_taken v i)).1 m (lead.edge w j).1)
  ]

  -- a closed walk that misses the goal would come nearer for ever
  missed : (walk : List ℕ) → ClosedWalk Inner walk → ((u : ℕ) → Contains walk u → u ≢ goal) → ⊥
  missed walk c miss =
      never_falls (Among Inner (λ u. u ≢ goal)) lead.rank
      (λ v w e. elim (lead.nearer v e.0.1) [
        | inl z ↦ absurd (e.2 (sym (follows_next v w e.0) ∙ z))
        | inr h ↦ subst (λ x. lead.rank x < lead.rank v) (follows_next v w e.0) h.1
      ]) walk (closed_among Inner (λ u. u ≢ goal) walk c miss)

  good : OnlyGoodWalks g p T choices
  good walk c =
      let d = closed_inside (KeptEdge g p T choices) (In T) (λ v w e. e.0) walk c in
      let i = closed_begins (KeptEdge g p T choices) (In T) (λ v w e. e.0) walk c in
      elim (some_or_none (λ u. eqb u goal) walk) [
        | inl (u, m, y) ↦
            ap of_parity (greatest_reached g (priority_of g goal) walk (λ x n. (lead.edge x (i x n)).2) u m (ap (priority_of g) (eqb-true u goal y))) ∙ parity
        | inr none ↦ absurd (missed walk d (λ u m e. (let y = eq-eqb u goal e in let n = none u m in cc (y, n))))
      ]

  -- what leads to the goal is his whose parity it has
  pub lead_held : WinsOn g U p T choices
  lead_held = record {
    within = λ v i. (lead.edge v i).1;
    choices = λ v i o. (slice_index next v, refl, (lead.edge v i).0, next_taken v i);
    closed = λ v w i o e u. (let h = lead.edge v i in
        subst (In T) (one v (slice_index next v) w h.1 (o ∙ twice q) h.0 (lead.edge (slice_index next v) (next_taken v i)).1 e u) (next_taken v i));
    good = good;
  }

-- what a call answers is good, where its rows are
pub ok_good : (g : Graph) (U : VertexSet) (p : Player) (rows : ClaimRows) (r : Result Claim AllocError) → IfOk r (λ (c : Claim). c.player ≡ p)
    → IfOk r (λ (c : Claim). c.rows ≡ rows) → IsGoodIn g U p rows → IfOk r (λ (c : Claim). IsGoodIn g U c.player c.rows)
ok_good g x1 p rows x4 a b h = search (rules)

pub not_solitaire : (g : Graph) (U : VertexSet) → (HasOneSuccessor g U Even → ⊥) → (HasOneSuccessor g U Odd → ⊥) → IsSolitaire g U → ⊥
not_solitaire g U a b (some, (Even, h)) = a h
not_solitaire g U a b (some, (Odd, h)) = b h
