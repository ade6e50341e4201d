-- The steps by which a subgame is solved: what an attractor leaves, what the player of the greatest priority gets, what the opponent takes.
use Rattle.pg_finders.proofs.Common.{◌≡◌, ℕ, ◌<◌, ◌≤◌, arith, Bool, true, false, ◌&&◌, not, ◌⊎◌, inl, inr, refl, sym, ◌∙◌, ap, subst, rules, fun_ext, Option, Some}
use Rattle.pg_finders.proofs.Common.{if◌then◌else◌, Contains, and-true, and_parts, and_from, cases_Bool, Player, opponent, same_player, of_parity, Graph}
use Rattle.pg_finders.proofs.Common.{HasEdge, owner_of, priority_of, successors_of, VertexSet, In, no_vertices, without, IsSubgame, Choices, kept, option_list}
use Rattle.pg_finders.proofs.Common.{KeptEdge, OnlyGoodWalks, some_or_none, ClosedWalk-weaker, own_or_other, same_is, is_same, Winners, won_inside, WinsOn}
use Rattle.pg_finders.proofs.Common.{IsSolvedInside, IsSolvedTo, IsAttracted, IsBegun, both_ways}
use Rattle.pg_game.proofs.Members.{Contains-one}
use Rattle.pg_finders.proofs.Sets.{not_both, twice, not_same, only, minus, back, unless, no_both}
use Rattle.pg_finders.proofs.ClosedWalks.{Among, closed_among, closed_inside, closed_begins, in_or_out, never_falls, never_empty, greatest_kept}

-- where a kept edge leads: along the player's choice, or along any edge of the opponent's vertex
pub kept_leads : (g : Graph) (p : Player) (s : Choices) (v w : ℕ) → Contains (kept g p s v) w
    → ((owner_of g v ≡ p) × Contains (option_list (s v)) w) ⊎ ((owner_of g v ≡ opponent p) × HasEdge g v w)
kept_leads g p s v w m = search (rules, own_or_other, is_same, not_same)

-- with the choice known
pub choice_leads : (s : Option ℕ) (c w : ℕ) → s ≡ Some c → Contains (option_list s) w → c ≡ w
choice_leads s c w e m = Contains-one c w (subst (λ o. Contains (option_list o) w) e m)

-- what one of two strategies keeps, the other keeps where they agree
pub kept_same : (g : Graph) (p : Player) (X : VertexSet) (s t : Choices) (v w : ℕ) → t v ≡ s v → In X v → Contains (kept g p t v) w → KeptEdge g p X s v w
kept_same g p X s t v w e i m = (i, subst (λ o. Contains (if same_player (owner_of g v) p then option_list o else successors_of g v) w) e m)

-- other choices elsewhere change nothing
pub Holds-same : {g : Graph} {U : VertexSet} {p : Player} {X : VertexSet} {s t : Choices} → ((v : ℕ) → In X v → t v ≡ s v) → WinsOn g U p X s → WinsOn g U p X t
Holds-same {g} {p = p} {X = X} {s = s} {t = t} same h = record {
  within = h.within;
  choices = λ v i o. (let c = h.choices v i o in (c.0, same v i ∙ c.1, c.2, c.3));
  closed = h.closed;
  good = λ walk c. h.good walk (ClosedWalk-weaker (KeptEdge g p X t) (KeptEdge g p X s) (λ v w k. kept_same g p X s t v w (same v k.0) k.0 k.1) walk c);
}

pub Holds-none : {g : Graph} {U : VertexSet} {p : Player} {X : VertexSet} {s : Choices} → ((v : ℕ) → In X v → ⊥) → WinsOn g U p X s
Holds-none {g} {p = p} {X = X} {s = s} empty = search (rules, never_empty)

pub Holds-subst : {g : Graph} {U : VertexSet} {p : Player} {X Y : VertexSet} {s : Choices} → ((v : ℕ) → X v ≡ Y v) → WinsOn g U p X s → WinsOn g U p Y s
Holds-subst {g} {U} {p} {s = s} e h = subst (λ Z. WinsOn g U p Z s) (fun_ext e) h

-- nothing is left to solve
pub solved_whole : {g : Graph} {U : VertexSet} {won : Winners} {s : Choices} → IsSolvedTo g U no_vertices won s → IsSolvedInside g U won s
solved_whole {U = U} {won = won} h p = Holds-subst (λ v. ap (λ b. b && same_player (won v) p) (and-true (U v))) (h.holds p)

pub whole_solved : {g : Graph} {U : VertexSet} {won : Winners} {s : Choices} → IsSolvedInside g U won s → IsSolvedTo g U no_vertices won s
whole_solved {U = U} {won = won} h = record {
  rest = λ v i. absurd (cc i);
  holds = λ p. Holds-subst (λ v. ap (λ b. b && same_player (won v) p) (sym (and-true (U v)))) (h p);
  away = λ v w i. absurd (cc i);
}

-- nothing is solved yet
pub solved_none : {g : Graph} {U : VertexSet} {won : Winners} {s : Choices} → IsSolvedTo g U U won s
solved_none {U = U} {won = won} = record {
  rest = λ v i. i;
  holds = λ p. Holds-none (λ v i. nothing (U v) (and_parts (without U U v) (same_player (won v) p) i).0);
  away = λ v w i e j. absurd (nothing (U w) j);
}
  where
    nothing : (a : Bool) → (a && not a) ≡ true → ⊥
    nothing true e = cc e
    nothing false e = cc e

-- what an attractor leaves is a subgame
pub left_is_subgame : {g : Graph} {p : Player} {U T A : VertexSet} {s : Choices} {rank : ℕ → ℕ} → IsSubgame g U → IsAttracted g p U T A s rank
    → IsSubgame g (without U A)
left_is_subgame {g} {p} {U} {A = A} sub a = record {
  vertices = λ v i. sub.vertices v (only (U v) (A v) i).0;
  successor = λ v i. (let h = only (U v) (A v) i in elim (own_or_other (owner_of g v) p) [
    | inl o ↦ (let c = sub.successor v h.0 in elim (cases_Bool (A c.0)) [
      | inl y ↦ absurd (no_both (a.own v c.0 h.0 o c.1 y) h.1)
      | inr n ↦ (c.0, c.1, minus c.2 n)
    ])
    | inr o ↦ elim (some_or_none (without U A) (successors_of g v)) [
      | inl (w, m, y) ↦ (w, m, y)
      | inr none ↦ absurd (no_both (a.forced v h.0 o (λ w m j. unless j (none w m))) h.1)
    ]
  ]);
}

-- Who wins what, where U was solved up to R and R up to Q.
module _ {g : Graph} {U R Q : VertexSet} {won : Winners} {s : Choices} (first : IsSolvedTo g U R won s) (second : IsSolvedTo g R Q won s) where
  abbrev X : Player → VertexSet
  X p = won_inside (without U Q) won p

  abbrev D : Player → VertexSet
  D p = won_inside (without U R) won p

  abbrev F : Player → VertexSet
  F p = won_inside (without R Q) won p

  q_out : (w : ℕ) → R w ≡ false → Q w ≡ false
  q_out w n = elim (cases_Bool (Q w)) [ inl y ↦ absurd (no_both (second.rest w y) n) | inr m ↦ m ]

  from_first : (p : Player) (v : ℕ) → In (D p) v → In (X p) v
  from_first p v i = search (rules, and_parts, only, and_from, minus, q_out)

  from_second : (p : Player) (v : ℕ) → In (F p) v → In (X p) v
  from_second p v i = search (rules, and_parts, only, and_from, minus, first.rest)

  parts : (p : Player) (v : ℕ) → In (X p) v → (In (D p) v × (R v ≡ false)) ⊎ (In (F p) v × (R v ≡ true))
  parts p v i = search (rules, and_parts, only, cases_Bool, and_from, minus)

  -- an edge inside U from the opponent's vertex
  stays_won : (p : Player) (v w : ℕ) → In (X p) v → owner_of g v ≡ opponent p → HasEdge g v w → In U w → In (X p) w
  stays_won p v w i o e u = elim (parts p v i) [
    | inl (d, n) ↦ from_first p w ((first.holds p).closed v w d o e u)
    | inr (f, y) ↦ elim (cases_Bool (R w)) [
      | inl r ↦ from_second p w ((second.holds p).closed v w f o e r)
      | inr n ↦ (let m = minus u n in
          let h : won w ≡ p = first.away v w y e m ∙ (ap opponent o ∙ twice p) in
          from_first p w (and_from (without U R w) (same_player (won w) p) m (is_same (won w) p h)))
    ]
  ]

  -- a kept edge whose ends are both won by the player does not lead from the first part to the second
  never_back : (p : Player) (v w : ℕ) → Among (KeptEdge g p (X p) s) (In (X p)) v w → In (without U R) v → In (without U R) w
  never_back p v w (k, i, j) m =
      let d : In (D p) v = and_from (without U R v) (same_player (won v) p) m (and_parts (without U Q v) (same_player (won v) p) i).1 in
      let u = (only (U w) (Q w) (and_parts (without U Q w) (same_player (won w) p) j).0).0 in
      elim (kept_leads g p s v w k.1) [
        | inl (o, c) ↦ (let h = (first.holds p).choices v d o in
            (and_parts (without U R w) (same_player (won w) p) (subst (In (D p)) (choice_leads (s v) h.0 w h.1 c) h.3)).0)
        | inr (o, e) ↦ (and_parts (without U R w) (same_player (won w) p) ((first.holds p).closed v w d o e u)).0
      ]

  good_walks : (p : Player) → OnlyGoodWalks g p (X p) s
  good_walks p walk c =
      let k = closed_inside (KeptEdge g p (X p) s) (In (X p)) (λ v w e. e.0) walk c in
      elim (in_or_out (Among (KeptEdge g p (X p) s) (In (X p))) (without U R) (never_back p) walk k) [
        | inl h ↦ (first.holds p).good walk (ClosedWalk-weaker (Among (Among (KeptEdge g p (X p) s) (In (X p))) (In (without U R))) (KeptEdge g p (D p) s)
            (λ v w e. (and_from (without U R v) (same_player (won v) p) e.1 (and_parts (without U Q v) (same_player (won v) p) e.0.1).1, e.0.0.1)) walk h)
        | inr h ↦ (second.holds p).good walk (ClosedWalk-weaker (Among (Among (KeptEdge g p (X p) s) (In (X p))) (λ v. without U R v ≡ false))
            (KeptEdge g p (F p) s)
            (λ v w e. (in_second v p e.0.1 e.1, e.0.0.1)) walk h)
      ]
    where
      in_second : (v : ℕ) (p : Player) → In (X p) v → without U R v ≡ false → In (F p) v
      in_second v p i n = elim (parts p v i) [
        | inl (d, m) ↦ absurd (no_both (and_parts (without U R v) (same_player (won v) p) d).0 n)
        | inr (f, y) ↦ f
      ]

  pub solved_append : IsSolvedTo g U Q won s
  solved_append = record {
    rest = λ v i. first.rest v (second.rest v i);
    holds = λ p. record {
      within = λ v i. (only (U v) (Q v) (and_parts (without U Q v) (same_player (won v) p) i).0).0;
      choices = λ v i o. elim (parts p v i) [
        | inl (d, n) ↦ (let c = (first.holds p).choices v d o in (c.0, c.1, c.2, from_first p c.0 c.3))
        | inr (f, y) ↦ (let c = (second.holds p).choices v f o in (c.0, c.1, c.2, from_second p c.0 c.3))
      ];
      closed = stays_won p;
      good = good_walks p;
    };
    away = λ v w i e j. (let u = only (U w) (Q w) j in elim (cases_Bool (R w)) [
      | inl r ↦ second.away v w i e (minus r u.1)
      | inr n ↦ first.away v w (second.rest v i) e (minus u.0 n)
    ]);
  }

-- What the player q won in U without A, from which no edge of the opponent's leads into A, grows by what it attracts in U.
module _ (g : Graph) (q : Player) (U A L B : VertexSet) (won : Winners) (s t : Choices) (rank : ℕ → ℕ)
    (shut : (v w : ℕ) → In (without U A) v → owner_of g v ≡ opponent q → HasEdge g v w → In A w → ⊥) (sub : WinsOn g (without U A) q L s)
    (a : IsAttracted g q U L B t rank) (keeps : (v : ℕ) → In L v → t v ≡ s v) (his : (v : ℕ) → In B v → won v ≡ q) where
  -- the part is held in U too
  old_closed : (v w : ℕ) → In L v → owner_of g v ≡ opponent q → HasEdge g v w → In U w → In L w
  old_closed v w i o e u = search (rules, cases_Bool, sub.within, sub.closed, minus)

  abbrev E : ℕ → ℕ → Type 0
  E = Among (KeptEdge g q B t) (In B)

  stays_old : (v w : ℕ) → E v w → In L v → In L w
  stays_old v w (k, i, j) l = search (rules, kept_leads, sub.choices, choice_leads, old_closed, a.inside)

  falls : (v w : ℕ) → Among E (λ v. L v ≡ false) v w → rank w < rank v
  falls v w ((k, i, j), n, m) = search (rules, kept_leads, a.leads, choice_leads, a.pushed, a.inside)

  pub grown_held : WinsOn g U q B t
  grown_held = record {
    within = a.inside;
    choices = λ v i o. elim (cases_Bool (L v)) [
      | inl l ↦ (let c = sub.choices v l o in (c.0, keeps v l ∙ c.1, c.2, a.target c.0 c.3))
      | inr n ↦ (let c = a.leads v i n o in (c.0, c.1, c.2, c.3))
    ];
    closed = λ v w i o e u. elim (cases_Bool (L v)) [
      | inl l ↦ a.target w (old_closed v w l o e u)
      | inr n ↦ (a.pushed v w i n o e u).0
    ];
    good = λ walk c. elim (in_or_out E L stays_old walk (closed_inside (KeptEdge g q B t) (In B) (λ v w e. e.0) walk c)) [
      | inl h ↦ sub.good walk (ClosedWalk-weaker (Among E (In L)) (KeptEdge g q L s) (λ v w e. kept_same g q L s t v w (keeps v e.1) e.1 e.0.0.1) walk h)
      | inr h ↦ absurd (never_falls (Among E (λ v. L v ≡ false)) rank falls walk h)
    ];
  }

  -- so U is solved up to what is left
  pub solved_but : IsSolvedTo g U (without U B) won t
  solved_but = record {
    rest = λ v i. (only (U v) (B v) i).0;
    holds = λ p. elim (own_or_other q p) [
      | inl e ↦ subst (λ x. WinsOn g U x (won_inside (without U (without U B)) won x) t) e
          (Holds-subst (λ v. both_ways (B v) (won_inside (without U (without U B)) won q v) (put v)
          (λ i. taken v (and_parts (without U (without U B) v) (same_player (won v) q) i).0)) grown_held)
      | inr e ↦ Holds-none (λ v i.
          (let b = and_parts (without U (without U B) v) (same_player (won v) p) i in
          not_both q p (sym (his v (taken v b.0)) ∙ same_is (won v) p b.1) e))
    ];
    away = λ v w i e j. (let h = only (U v) (B v) i in elim (own_or_other (owner_of g v) q) [
      | inl o ↦ absurd (no_both (a.own v w h.0 o e (taken w j)) h.1)
      | inr o ↦ his w (taken w j) ∙ (sym (twice q) ∙ ap opponent (sym o))
    ]);
  }
    where
      taken : (v : ℕ) → In (without U (without U B)) v → In B v
      taken v i = back (U v) (B v) i

      put : (v : ℕ) → In B v → won_inside (without U (without U B)) won q v ≡ true
      put v i = twice_out (U v) (B v) (same_player (won v) q) (a.inside v i) i (is_same (won v) q (his v i))
        where
          twice_out : (a b c : Bool) → a ≡ true → b ≡ true → c ≡ true → ((a && not (a && not b)) && c) ≡ true
          twice_out a b c x y z = rw (x, y, z) refl

-- The player of the greatest priority wins all of U, where he wins all that the attractor of its vertices leaves.
module _ (g : Graph) (p : Player) (U T A : VertexSet) (won : Winners) (s : Choices) (rank : ℕ → ℕ)
    (above : (t v : ℕ) → In T t → In U v → priority_of g t ≤ priority_of g v → of_parity (priority_of g v) ≡ p) (a : IsAttracted g p U T A s rank)
    (chosen : (v : ℕ) → In T v → owner_of g v ≡ p → (w : ℕ) × (s v ≡ Some w) × HasEdge g v w × In U w) (sub : WinsOn g (without U A) p (without U A) s) where
  abbrev G : ℕ → ℕ → Type 0
  G = Among (KeptEdge g p U s) (λ v. In U v × (T v ≡ false))

  stays_attracted : (v w : ℕ) → G v w → In A v → In A w
  stays_attracted v w (k, i, j) y = elim (kept_leads g p s v w k.1) [
    | inl (o, c) ↦ (let h = a.leads v y i.1 o in subst (In A) (choice_leads (s v) h.0 w h.1 c) h.3)
    | inr (o, e) ↦ (a.pushed v w y i.1 o e j.0).0
  ]

  falls_in : (v w : ℕ) → Among G (In A) v w → rank w < rank v
  falls_in v w ((k, i, j), y, z) = search (rules, kept_leads, a.leads, choice_leads, a.pushed)

  pub all_held : WinsOn g U p U s
  all_held = record {
    within = λ v i. i;
    choices = λ v i o. elim (cases_Bool (A v)) [
      | inl y ↦ elim (cases_Bool (T v)) [
        | inl t ↦ chosen v t o
        | inr n ↦ (let c = a.leads v y n o in (c.0, c.1, c.2, a.inside c.0 c.3))
      ]
      | inr n ↦ (let c = sub.choices v (minus i n) o in (c.0, c.1, c.2, (only (U c.0) (A c.0) c.3).0))
    ];
    closed = λ v w i o e u. u;
    good = λ walk c. (let inside = closed_begins (KeptEdge g p U s) (In U) (λ v w e. e.0) walk c in
        elim (some_or_none T walk) [
          | inl (w, m, t) ↦ greatest_kept g p walk w m (λ u n l. above w u t (inside u n) l)
          | inr none ↦ (let k = closed_among (KeptEdge g p U s) (λ v. In U v × (T v ≡ false)) walk c (λ u n. (inside u n, none u n)) in
              elim (in_or_out G A stays_attracted walk k) [
                | inl h ↦ absurd (never_falls (Among G (In A)) rank falls_in walk h)
                | inr h ↦ sub.good walk (ClosedWalk-weaker (Among G (λ v. A v ≡ false)) (KeptEdge g p (without U A) s)
                    (λ v w e. (minus e.0.1.0 e.1, e.0.0.1)) walk h)
              ])
        ]);
  }

  pub solved_all : ((v : ℕ) → In U v → won v ≡ p) → IsSolvedTo g U no_vertices won s
  solved_all his = whole_solved (λ q. elim (own_or_other p q) [
    | inl e ↦ subst (λ x. WinsOn g U x (won_inside U won x) s) e (Holds-subst (λ v. both_ways (U v) (won_inside U won p v)
        (λ i. and_from (U v) (same_player (won v) p) i (is_same (won v) p (his v i))) (λ i. (and_parts (U v) (same_player (won v) p) i).0)) all_held)
    | inr e ↦ Holds-none (λ v i. (let b = and_parts (U v) (same_player (won v) q) i in not_both p q (sym (his v b.0) ∙ same_is (won v) q b.1) e))
  ])

-- the facts of an attraction are those of its choices where it is not the target
pub IsAttracted-same : {g : Graph} {p : Player} {U T A : VertexSet} {s t : Choices} {rank : ℕ → ℕ} → ((v : ℕ) → In A v → t v ≡ s v)
    → IsAttracted g p U T A s rank → IsAttracted g p U T A t rank
IsAttracted-same same a = record {
  inside = a.inside;
  target = a.target;
  own = a.own;
  forced = a.forced;
  leads = λ v i n o. (let c = a.leads v i n o in (c.0, same v i ∙ c.1, c.2, c.3, c.4));
  pushed = a.pushed;
}

pub IsAttracted-subst : {g : Graph} {p : Player} {U T A B : VertexSet} {s : Choices} {rank : ℕ → ℕ} → ((v : ℕ) → A v ≡ B v) → IsAttracted g p U T A s rank
    → IsAttracted g p U T B s rank
IsAttracted-subst {g} {p} {U} {T} {s = s} {rank = rank} e a = subst (λ Z. IsAttracted g p U T Z s rank) (fun_ext e) a

pub IsSubgame-subst : {g : Graph} {U V : VertexSet} → ((v : ℕ) → U v ≡ V v) → IsSubgame g U → IsSubgame g V
IsSubgame-subst {g} e h = subst (IsSubgame g) (fun_ext e) h

pub IsSolvedTo-subst : {g : Graph} {U R Q : VertexSet} {won : Winners} {s : Choices} → ((v : ℕ) → R v ≡ Q v) → IsSolvedTo g U R won s → IsSolvedTo g U Q won s
IsSolvedTo-subst {g} {U} {won = won} {s = s} e h = subst (λ Z. IsSolvedTo g U Z won s) (fun_ext e) h

pub back_equal : (a b : Bool) → (b ≡ true → a ≡ true) → (a && not (a && not b)) ≡ b
back_equal true true f = refl
back_equal true false f = refl
back_equal false true f = f refl
back_equal false false f = refl

module _ {g : Graph} {U T L : VertexSet} {p : Player} {won : Winners} {s : Choices} (begun : IsBegun g U T L p won s) where
  abbrev A : VertexSet
  A = without U L

  left_is : (v : ℕ) → without U A v ≡ L v
  left_is v = back_equal (U v) (L v) (begun.within v)

  -- what is left of a subgame that is begun is a subgame
  pub left_subgame : IsSubgame g L
  left_subgame = IsSubgame-subst left_is (left_is_subgame begun.subgame begun.attracted)

  -- it stays begun while what is left is worked on
  pub begun_same : (won' : Winners) (s' : Choices) → ((v : ℕ) → L v ≡ false → (won' v ≡ won v) × (s' v ≡ s v)) → IsBegun g U T L p won' s'
  begun_same won' s' same = record {
    subgame = begun.subgame;
    within = begun.within;
    rank = begun.rank;
    parity = begun.parity;
    below = begun.below;
    some = begun.some;
    attracted = IsAttracted-same (λ v i. (same v (only (U v) (L v) i).1).1) begun.attracted;
    chosen = λ v t o. (let c = begun.chosen v t o in
        (c.0, (same v (only (U v) (L v) (begun.attracted.target v t)).1).1 ∙ c.1, c.2, c.3));
    his = λ v i. (same v (only (U v) (L v) i).1).0 ∙ begun.his v i;
  }

  -- the opponent's vertex that is left has no edge into the attractor
  no_way_in : (q : Player) → p ≡ opponent q → (v w : ℕ) → In (without U A) v → owner_of g v ≡ opponent q → HasEdge g v w → In A w → ⊥
  no_way_in q x v w i o e j = search (rules, only, no_both, begun.attracted.own)

  -- the player won all that was left, so he wins all
  pub all_won : IsSolvedInside g L won s → ((v : ℕ) → In L v → won v ≡ p) → IsSolvedTo g U no_vertices won s
  all_won solved his = solved_all g p U T A won s begun.rank above begun.attracted begun.chosen rest
      (λ v u. elim (cases_Bool (L v)) [ inl l ↦ his v l | inr n ↦ begun.his v (minus u n) ])
    where
      above : (t v : ℕ) → In T t → In U v → priority_of g t ≤ priority_of g v → of_parity (priority_of g v) ≡ p
      above t v i u l = elim (cases_Bool (T v)) [
        | inl j ↦ begun.parity v j
        | inr n ↦ absurd (let b = begun.below t v i u n in omega (arith, b, l))
      ]

      mine : (v : ℕ) → won_inside L won p v ≡ without U A v
      mine v = both_ways (won_inside L won p v) (without U A v) (λ i. left_is v ∙ (and_parts (L v) (same_player (won v) p) i).0)
          (λ i. (let l : L v ≡ true = sym (left_is v) ∙ i in and_from (L v) (same_player (won v) p) l (is_same (won v) p (his v l))))

      rest : WinsOn g (without U A) p (without U A) s
      rest = Holds-subst mine (subst (λ Z. WinsOn g Z p (won_inside L won p) s) (sym (fun_ext left_is)) (solved p))

  -- what the opponent won of it, and all that this attracts, is his
  pub part_lost : (B : VertexSet) (won' : Winners) (t : Choices) (rank : ℕ → ℕ) → IsSolvedInside g L won s
      → IsAttracted g (opponent p) U (won_inside L won (opponent p)) B t rank → ((v : ℕ) → In (won_inside L won (opponent p)) v → t v ≡ s v)
      → ((v : ℕ) → In B v → won' v ≡ opponent p) → IsSolvedTo g U (without U B) won' t
  part_lost B won' t rank solved a keeps his =
      solved_but g (opponent p) U A (won_inside L won (opponent p)) B won' s t rank (no_way_in (opponent p) (sym (twice p)))
      (subst (λ Z. WinsOn g Z (opponent p) (won_inside L won (opponent p)) s) (sym (fun_ext left_is)) (solved (opponent p))) a keeps his

-- what is solved up to R stays so while R is worked on
pub IsSolvedTo-same : {g : Graph} {U R : VertexSet} {won won' : Winners} {s s' : Choices} → ((v : ℕ) → R v ≡ false → (won' v ≡ won v) × (s' v ≡ s v))
    → IsSolvedTo g U R won s → IsSolvedTo g U R won' s'
IsSolvedTo-same {U = U} {R} {won} {won'} same h = record {
  rest = h.rest;
  holds = λ p. Holds-same (λ v i. (same v (outside v (and_parts (without U R v) (same_player (won' v) p) i).0)).1)
      (Holds-subst (λ v. equal v p (without U R v) refl) (h.holds p));
  away = λ v w i e j. (same w (outside w j)).0 ∙ h.away v w i e j;
}
  where
    outside : (v : ℕ) → In (without U R) v → R v ≡ false
    outside v i = (only (U v) (R v) i).1

    equal : (v : ℕ) (p : Player) (b : Bool) → without U R v ≡ b → (without U R v && same_player (won v) p) ≡ (without U R v && same_player (won' v) p)
    equal v p true e = ap (λ q. without U R v && same_player q p) (sym (same v (outside v e)).0)
    equal v p false e = rw e refl
