-- A player attracts free vertices: what is settled once one is taken, and once all are that he attracts.
use Rattle.pg_finders.proofs.Common.{◌≡◌, ◌≢◌, ℕ, ◌<◌, false, ◌&&◌, not, ◌⊎◌, inl, inr, List, [], ◌∷◌, ◌++◌}
use Rattle.pg_finders.proofs.Common.{length, drop, take, refl, sym, ◌∙◌}
use Rattle.pg_finders.proofs.Common.{ap, subst, fun_ext, append-nil, take-append-drop}
use Rattle.pg_finders.proofs.Common.{◌==◌, eq-eqb, or_cases, or_left, or_parts, or_right}
use Rattle.pg_finders.proofs.Common.{false_from_ne_true, cases_Bool, own_or_other, Player, Even, Odd, opponent, Graph, HasEdge}
use Rattle.pg_finders.proofs.Common.{owner_of, VertexSet, In, Within, members}
use Rattle.pg_finders.proofs.Common.{union, without, listed, Apart, settled_of, active_of, HasTaken, AttractsNoFurther, IsTakenOrOpen}
use Rattle.pg_finders.proofs.Common.{Option, Some, None, IsAttractedRow, both_ways}
use Rattle.std.proofs.lemmas.Bool.{and_right, not-true, not_from_false, not_from_true}
use Rattle.std.proofs.lemmas.List.{append_cancel_left}
use Rattle.pg_finders.specs.declared.recursion.partition.Partition.{Partition}
use Rattle.pg_finders.specs.declared.recursion.settled.Settled.{Settled}
use Rattle.pg_finders.specs.private.recursion.Settled.{since, IsPlaced}
use Rattle.pg_finders.specs.declared.recursion.settled.Tail.{Tail}
use Rattle.pg_finders.specs.private.recursion.Partition.{free_of, IsPartition, FitsPartition, HasFewerFree, MovesCursors, Puts, KeepsBehind, KeepsFree, LosesFree, AttractsFree, IsTarget, HasTested}
use Rattle.pg_finders.specs.private.AttractorLaws.{fewer_same, fewer_then}
use Rattle.pg_finders.proofs.Sets.{twice, no_both, only, minus}
use Rattle.pg_finders.proofs.recursion.ListsAsSets.{in_prefix, prefix_or_rest, in_take, in_drop, take_or_drop, one_listed, listed-append}
use Rattle.pg_finders.proofs.recursion.ListsAsSets.{take_apart, apart_other}
use Rattle.pg_finders.proofs.recursion.ListsAsSets.{all_below}
use Rattle.pg_finders.proofs.recursion.AttractionSteps.{grown_none, grown_prefix, grown_union, once_push}
use Rattle.pg_finders.proofs.recursion.AttractionSteps.{apart_push}
use Rattle.pg_finders.proofs.recursion.RepeatedAttraction.{all_listed, taken_more, tested_done}
use Rattle.pg_finders.proofs.recursion.PlacedLists.{lists_once}
use Rattle.pg_finders.proofs.recursion.FreeVertices.{free_is, settled_free, free_below, not_listed, put_grown}

-- ---- the settled lists

nothing_listed : (xs : List ℕ) → ((v : ℕ) → In (listed xs) v → ⊥) → xs ≡ []
nothing_listed [] f = refl
nothing_listed (x ∷ xs) f = absurd (f x (rw (eq-eqb x x refl) refl))

players_apart : {n : ℕ} (x : Settled) → IsPlaced n x → (p : Player) → Apart (settled_of x p) (settled_of x (opponent p))
players_apart x h Even = h.players
players_apart {n} x h Odd = apart_other (settled_of x Even) (settled_of x Odd) h.players

pub rest_none : {t : Tail} {x y : Partition} → HasFewerFree t x y → since t x.settled ≡ [] → since t y.settled ≡ []
rest_none {t} {x} {y} h e = nothing_listed (since t y.settled) (λ v i. no_both (h.rest v i) (ap (λ xs. listed xs v) e))

own_same : {t : Tail} {x y : Partition} → HasFewerFree t x y → since t x.settled ≡ [] → settled_of y.settled t.player ≡ settled_of x.settled t.player
own_same {t} {x} {y} h e =
    let now = settled_of y.settled t.player in
    let was = settled_of x.settled t.player in
    sym (take-append-drop t.from now) ∙ (ap (λ zs. zs ++ drop t.from now) h.own
    ∙ (ap (λ zs. take t.from was ++ zs) (rest_none h e ∙ sym e) ∙ take-append-drop t.from was))

-- the player's list is as it was, where he is the opponent or nothing is in the tail
pub settled_same : {t : Tail} {x y : Partition} (p : Player) → (p ≡ opponent t.player) ⊎ (since t x.settled ≡ []) → HasFewerFree t x y
    → settled_of y.settled p ≡ settled_of x.settled p
settled_same {t} {x} {y} p (inl e) h = subst (λ q. settled_of y.settled q ≡ settled_of x.settled q) (sym e) h.other
settled_same {t} {x} {y} p (inr e) h = elim (own_or_other p t.player) [
  | inl o ↦ subst (λ q. settled_of y.settled q ≡ settled_of x.settled q) (sym o) (own_same h e)
  | inr o ↦ subst (λ q. settled_of y.settled q ≡ settled_of x.settled q) (sym o) h.other
]

pub side_later : {t : Tail} {x y : Partition} {p : Player} → (p ≡ opponent t.player) ⊎ (since t x.settled ≡ []) → HasFewerFree t x y
    → (p ≡ opponent t.player) ⊎ (since t y.settled ≡ [])
side_later (inl e) h = inl e
side_later (inr e) h = inr (rest_none h e)

-- what is settled was so
pub settled_was : {t : Tail} {x y : Partition} → HasFewerFree t x y → (p : Player) (w : ℕ) → In (listed (settled_of y.settled p)) w
    → In (listed (settled_of x.settled p)) w
settled_was {t} {x} {y} h p w i = elim (own_or_other p t.player) [
  | inl e ↦ subst (λ q. In (listed (settled_of x.settled q)) w) (sym e) (own (subst (λ q. In (listed (settled_of y.settled q)) w) e i))
  | inr e ↦ subst (λ q. In (listed (settled_of x.settled q)) w) (sym e) (subst (λ xs. In (listed xs) w) h.other
      (subst (λ q. In (listed (settled_of y.settled q)) w) e i))
]
  where
    own : In (listed (settled_of y.settled t.player)) w → In (listed (settled_of x.settled t.player)) w
    own j = elim (take_or_drop t.from (settled_of y.settled t.player) w j) [
      | inl a ↦ in_take t.from (settled_of x.settled t.player) w (subst (λ xs. In (listed xs) w) h.own a)
      | inr b ↦ in_drop t.from (settled_of x.settled t.player) w (h.rest w b)
    ]

pub was_free : {t : Tail} {x y : Partition} → HasFewerFree t x y → (v : ℕ) → In (free_of t y) v → In (free_of t x) v
was_free {t} {x} h v i = elim (cases_Bool (free_of t x v)) [ inl f ↦ f | inr n ↦ absurd (no_both i (h.free v n)) ]

-- a vertex that is free no more is not settled
module _ {n : ℕ} {t : Tail} {x y : Partition} (a : IsPartition n x) (h : HasFewerFree t x y) (b : IsPartition n y) (v : ℕ) (i : In (free_of t x) v)
    (gone : free_of t y v ≡ false) where
  rest : (p : Player) → In (listed (settled_of x.settled p)) v → In (listed (since t x.settled)) v
  rest p j = settled_free t a v i (a.apart p v j)

  unlisted_own : In (listed (settled_of y.settled t.player)) v → ⊥
  unlisted_own j = elim (take_or_drop t.from (settled_of y.settled t.player) v j) [
    | inl k ↦ (let k' = subst (λ xs. In (listed xs) v) h.own k in
        no_both (rest t.player (in_take t.from (settled_of x.settled t.player) v k'))
        (take_apart t.from (settled_of x.settled t.player) (lists_once a.placed t.player) v k'))
    | inr k ↦ no_both (free_is t b v ∙ or_right (active_of y.subgame v) (listed (since t y.settled) v) k) gone
  ]

  unlisted_other : In (listed (settled_of x.settled (opponent t.player))) v → ⊥
  unlisted_other j = no_both j
      (players_apart x.settled a.placed t.player v (in_drop t.from (settled_of x.settled t.player) v (rest (opponent t.player) j)))

  pub unlisted : (p : Player) → listed (settled_of y.settled p) v ≡ false
  unlisted p = false_from_ne_true (listed (settled_of y.settled p) v) (λ j. elim (own_or_other p t.player) [
    | inl e ↦ unlisted_own (subst (λ q. In (listed (settled_of y.settled q)) v) e j)
    | inr e ↦ unlisted_other (subst (λ xs. In (listed xs) v) h.other (subst (λ q. In (listed (settled_of y.settled q)) v) e j))
  ])

-- ---- one vertex is taken

-- what is taken is free no more
pub without_one : (F F' : VertexSet) (v : ℕ) → ((w : ℕ) → F' w ≡ without F (λ u. v == u) w) → F' v ≡ false
without_one F F' v now = now v ∙ and_right (F v) (not (v == v)) (not_from_true (v == v) (eq-eqb v v refl))

-- the list still fits, where a vertex is listed that is free no more
pub fit_push : {n : ℕ} {t : Tail} {x y : Partition} {list : List ℕ} (v : ℕ) → HasFewerFree t x y → FitsPartition n t x list → IsPartition n y → In (free_of t x) v
    → ((w : ℕ) → free_of t y w ≡ without (free_of t x) (λ u. v == u) w) → FitsPartition n t y (list ++ v ∷ [])
fit_push {n} {t} {x} {y} {list} v h f b i now = record {
  partition = b;
  once = once_push list v f.once (not_listed f v i);
  apart = apart_push list v (free_of t x) (free_of t y) f.apart now;
  below = all_below n (list ++ v ∷ []) (λ w j. elim (prefix_or_rest list (v ∷ []) w j) [
    | inl k ↦ all_listed (λ u. u < n) list f.below w k
    | inr k ↦ subst (λ u. u < n) (one_listed v w k) (free_below t f.partition v i)
  ]);
  unsettled = λ p w j. false_from_ne_true (listed (list ++ v ∷ []) w) (λ z. elim (prefix_or_rest list (v ∷ []) w z) [
    | inl k ↦ no_both k (f.unsettled p w (settled_was h p w j))
    | inr k ↦ no_both j (subst (λ u. listed (settled_of y.settled p) u ≡ false) (one_listed v w k)
        (unlisted f.partition h b v i (without_one (free_of t x) (free_of t y) v now) p))
  ]);
}

-- a free vertex leads to what is listed first: the player's by a successor there, and the opponent's since none is free
module _ (g : Graph) (p : Player) {n : ℕ} {t : Tail} {x : Partition} (first : List ℕ) {list : List ℕ} (fit : FitsPartition n t x list)
    (apart : (v : ℕ) → In (listed first) v → free_of t x v ≡ false) (v : ℕ) (i : In (free_of t x) v) where
  fresh : listed (first ++ list) v ≡ false
  fresh = false_from_ne_true (listed (first ++ list) v) (λ j. elim (prefix_or_rest first list v j) [
    | inl k ↦ no_both i (apart v k)
    | inr k ↦ no_both i (fit.apart v k)
  ])

  abbrev Leads : Option ℕ → Type 0
  Leads choice = IsAttractedRow g p (union (free_of t x) (listed (first ++ list))) (listed (first ++ list)) (v, choice)

  pub leads_own : owner_of g v ≡ p → (w : ℕ) → HasEdge g v w → In (listed first) w → Leads (Some w)
  leads_own e w edge j = record {
    inside = or_left (free_of t x v) (listed (first ++ list) v) i;
    fresh = fresh;
    own = λ o. (w, refl, edge, in_prefix first list w j);
    forced = λ o. absurd (o e);
  }

  pub leads_other : owner_of g v ≢ p → ((w : ℕ) → HasEdge g v w → In (free_of t x) w → ⊥) → Leads None
  leads_other n out = record {
    inside = or_left (free_of t x v) (listed (first ++ list) v) i;
    fresh = fresh;
    own = λ o. absurd (n o);
    forced = λ o. (refl, λ w e u. elim (or_cases (free_of t x w) (listed (first ++ list) w) u) [ inl f ↦ absurd (out w e f) | inr k ↦ k ]);
  }

-- ---- a search moves cursors, and all else stays

module _ (t : Tail) {x y : Partition} (m : MovesCursors x y) where
  lists_moved : (p : Player) → settled_of y.settled p ≡ settled_of x.settled p
  lists_moved p = ap (λ s. settled_of s p) m.settled

  pub free_moved : (v : ℕ) → free_of t y v ≡ free_of t x v
  free_moved v = rw (m.active, m.settled) refl

  pub fewer_moved : HasFewerFree t x y
  fewer_moved = record {
    other = lists_moved (opponent t.player);
    own = ap (λ xs. take t.from xs) (lists_moved t.player);
    active = λ v i. subst (λ mask. In (members mask) v) m.active i;
    rest = λ v i. subst (λ s. In (listed (since t s)) v) m.settled i;
    free = λ v n. free_moved v ∙ n;
  }

  pub fit_moved : {n : ℕ} {list : List ℕ} → IsPartition n y → FitsPartition n t x list → FitsPartition n t y list
  fit_moved {n} {list} a f = record {
    partition = a;
    once = f.once;
    apart = λ v i. free_moved v ∙ f.apart v i;
    below = f.below;
    unsettled = λ p v i. f.unsettled p v (subst (λ xs. In (listed xs) v) (lists_moved p) i);
  }

  pub grown_moved : (g : Graph) (p : Player) (first list list' : List ℕ) (z : Partition) → KeepsBehind g p first t y list z list'
      → KeepsBehind g p first t x list z list'
  grown_moved g p first list list' z h = λ before old prefix taken. h before old prefix
      (subst (λ plan. HasTaken g p before old prefix (free_of t y) plan (first ++ list)) (sym m.plan)
      (subst (λ F. HasTaken g p before old prefix F x.subgame.plan (first ++ list)) (sym (fun_ext free_moved)) taken))

-- whatever may be taken, fewer are free, and the list fits
fewer_from : {t u : Tail} {x y : Partition} → HasFewerFree t (record x { free = u }) y → HasFewerFree t x y
fewer_from a = record { other = a.other; own = a.own; active = a.active; rest = a.rest; free = a.free }

pub fit_from : {n : ℕ} {t u : Tail} {x : Partition} {list : List ℕ} → FitsPartition n t x list → FitsPartition n t (record x { free = u }) list
fit_from f = record {
  partition = record { sizes = f.partition.sizes; placed = f.partition.placed; apart = f.partition.apart };
  once = f.once;
  apart = f.apart;
  below = f.below;
  unsettled = f.unsettled;
}

-- ---- vertices are tested

-- nothing has changed, and none is tested
pub tests_none : {g : Graph} {t target : Tail} {x : Partition} {list : List ℕ} → FitsPartition (length g) t x list → HasTested g t target [] x list x list
tests_none {t = t} {x = x} fit = record {
  fit = fit;
  fewer = fewer_same t x;
  target_same = refl;
  grown = λ before old prefix h. h;
  tested = λ v i. absurd (cc i);
}

one_tested : (P : ℕ → Type 0) (F : VertexSet) (v : ℕ) → (In F v → P v) → (u : ℕ) → In (listed (v ∷ [])) u → In F u → P u
one_tested P F v h u i f = subst P (one_listed v u i) (h (subst (In F) (sym (one_listed v u i)) f))

-- one vertex is taken, after a search that moved cursors
pub tests_put : {g : Graph} {t target : Tail} {x y z : Partition} {list : List ℕ} {choice : Option ℕ} {v : ℕ} → IsTarget t target x → MovesCursors x y
    → FitsPartition (length g) t z (list ++ v ∷ []) → Puts t target.player v choice y z
    → IsAttractedRow g target.player (union (free_of t y) (listed (since target x.settled ++ list))) (listed (since target x.settled ++ list)) (v, choice)
    → HasTested g t target (v ∷ []) x list z (list ++ v ∷ [])
tests_put {g} {t} {target} {x} {y} {z} {list} {choice} {v} aims m after puts leads = record {
  fit = after;
  fewer = fewer_put;
  target_same = ap (drop target.from) (settled_same target.player aims.side fewer_put);
  grown = grown_moved t m g target.player (since target x.settled) list (list ++ v ∷ []) z
      (put_grown (since target x.settled) list free puts leads);
  tested = one_tested (IsTakenOrOpen g target.player (union (free_of t x) (listed (since target x.settled))) (listed (since target x.settled))
      (λ u. not (free_of t z u))) (free_of t x) v
      (λ f. inl (not_from_false (free_of t z v) (without_one (free_of t y) (free_of t z) v puts.free)));
}
  where
    fewer_put : HasFewerFree t x z
    fewer_put = fewer_then (fewer_moved t m) puts.fewer

    free : In (free_of t y) v
    free = elim (or_cases (free_of t y v) (listed (since target x.settled ++ list) v) leads.inside) [
      | inl f ↦ f
      | inr j ↦ absurd (no_both j leads.fresh)
    ]

-- a vertex is left, since it is not free or open, after a search that moved cursors
pub tests_left : {g : Graph} {t target : Tail} {x y : Partition} {list : List ℕ} {v : ℕ} → MovesCursors x y → FitsPartition (length g) t y list
    → (In (free_of t x) v → IsTakenOrOpen g target.player (union (free_of t x) (listed (since target x.settled))) (listed (since target x.settled))
    (λ u. not (free_of t y u)) v) → HasTested g t target (v ∷ []) x list y list
tests_left {g} {t} {target} {x} {y} {list} {v} m fit rests = record {
  fit = fit;
  fewer = fewer_moved t m;
  target_same = ap (since target) m.settled;
  grown = grown_moved t m g target.player (since target x.settled) list list y (λ before old prefix h. h);
  tested = one_tested (IsTakenOrOpen g target.player (union (free_of t x) (listed (since target x.settled))) (listed (since target x.settled))
      (λ u. not (free_of t y u))) (free_of t x) v rests;
}

-- more are tested
module _ {g : Graph} {t target : Tail} {xs ys : List ℕ} {x y z : Partition} {list mid more : List ℕ} (a : HasTested g t target xs x list y mid)
    (b : HasTested g t target ys y mid z more) where
  abbrev D : VertexSet
  D = listed (since target x.settled)

  abbrev taken_now : VertexSet
  taken_now u = not (free_of t z u)

  now_taken : (w : ℕ) → free_of t y w ≡ false → In taken_now w
  now_taken w n = not_from_false (free_of t z w) (b.fewer.free w n)

  still_inside : Within (union (free_of t y) D) (union (free_of t x) D)
  still_inside w u = elim (or_cases (free_of t y w) (D w) u) [
    | inl f ↦ or_left (free_of t x w) (D w) (was_free a.fewer w f)
    | inr d ↦ or_right (free_of t x w) (D w) d
  ]

  pub tests_then : HasTested g t target (xs ++ ys) x list z more
  tests_then = record {
    fit = b.fit;
    fewer = fewer_then a.fewer b.fewer;
    target_same = b.target_same ∙ a.target_same;
    grown = λ before old prefix h.
        subst (λ first. KeepsBehind g target.player first t y mid z more) a.target_same b.grown before old prefix (a.grown before old prefix h);
    tested = λ v i f. elim (prefix_or_rest xs ys v i) [
      | inl j ↦ taken_more g target.player (union (free_of t x) D) (union (free_of t x) D) D (λ u. not (free_of t y u)) taken_now v (λ w u. u)
          (λ w n. now_taken w (not-true (free_of t y w) n)) (a.tested v j f)
      | inr j ↦ elim (cases_Bool (free_of t y v)) [
        | inl m ↦ taken_more g target.player (union (free_of t y) D) (union (free_of t x) D) D taken_now taken_now v still_inside (λ w n. n)
            (subst (λ first. IsTakenOrOpen g target.player (union (free_of t y) (listed first)) (listed first) taken_now v) a.target_same (b.tested v j m))
        | inr n ↦ inl (now_taken v n)
      ]
    ];
  }

-- ---- all is taken that the player attracts

-- what is free or listed is below n
pub fit_below : {n : ℕ} {t : Tail} {x : Partition} {list : List ℕ} → FitsPartition n t x list → (v : ℕ) → In (union (free_of t x) (listed list)) v → v < n
fit_below {n} {t} {x} {list} f v u = elim (or_cases (free_of t x v) (listed list v) u) [
  | inl k ↦ free_below t f.partition v k
  | inr k ↦ all_listed (λ w. w < n) list f.below v k
]

-- of the free vertices only the given ones may lead to the target, and these are tested: from x to y
pub record TestsThese (g : Graph) (t target : Tail) (vertices : List ℕ) (x : Partition) (none : List ℕ) (y : Partition) (mid : List ℕ) : Type 0 where
  pub empty : none ≡ []
  pub aims : IsTarget t target x
  pub at_most : AttractsNoFurther g target.player (union (free_of t x) (listed (since target x.settled))) (listed (since target x.settled))
      (listed (since target x.settled ++ vertices))
  pub tests : HasTested g t target vertices x none y mid

-- what the tests leave open
module _ {g : Graph} {t target : Tail} {vertices : List ℕ} {x y : Partition} {none mid : List ℕ}
    (h : TestsThese g t target vertices x none y mid) where
  abbrev aim : List ℕ
  aim = since target x.settled

  pub half : HasTaken g target.player (free_of t x) x.subgame.plan aim (free_of t y) y.subgame.plan (aim ++ mid)
  half = h.tests.grown (free_of t x) x.subgame.plan aim
      (subst (λ xs. HasTaken g target.player (free_of t x) x.subgame.plan aim (free_of t x) x.subgame.plan xs)
      (sym (ap (λ xs. aim ++ xs) h.empty ∙ append-nil aim)) grown_none)

  pub first_done : AttractsNoFurther g target.player (union (free_of t x) (listed aim)) (listed aim) (listed (aim ++ mid))
  first_done = tested_done vertices half h.at_most h.tests.tested

  inside : (w : ℕ) → In (union (free_of t x) (listed aim)) w → listed aim w ≡ false → In (union (free_of t y) (listed mid)) w
  inside w u n = elim (or_cases (free_of t y w) (listed (aim ++ mid) w) (grown_union half w ∙ u)) [
    | inl f ↦ or_left (free_of t y w) (listed mid w) f
    | inr l ↦ elim (prefix_or_rest aim mid w l) [ inl a ↦ absurd (no_both a n) | inr b ↦ or_right (free_of t y w) (listed mid w) b ]
  ]

  -- each vertex of the opponent's that is left has a way out
  pub half_open : AttractsNoFurther g target.player (union (free_of t y) (listed mid)) (listed []) (listed mid)
  half_open = record {
    own = λ v w u n o e. refl;
    other = λ v u n o. (let f = left v u n in
        let q = first_done.other v (sym (grown_union half v) ∙ or_left (free_of t y v) (listed (aim ++ mid) v) f) (out v f n) o in
        (q.0, q.1, inside q.0 q.2 q.3, refl));
  }
    where
      left : (v : ℕ) → In (union (free_of t y) (listed mid)) v → listed mid v ≡ false → In (free_of t y) v
      left v u n = elim (or_cases (free_of t y v) (listed mid v) u) [ inl f ↦ f | inr m ↦ absurd (no_both m n) ]

      out : (v : ℕ) → In (free_of t y) v → listed mid v ≡ false → listed (aim ++ mid) v ≡ false
      out v f n = false_from_ne_true (listed (aim ++ mid) v)
          (λ i. elim (prefix_or_rest aim mid v i) [ inl a ↦ no_both f (h.tests.fewer.free v (h.aims.apart v a)) | inr m ↦ no_both m n ])

-- and then the player takes what he attracts to those that he took: on to z
pub record AttractsInTwo (g : Graph) (t target : Tail) (vertices : List ℕ) (x : Partition) (none : List ℕ) (y : Partition) (mid : List ℕ)
    (z : Partition) (list : List ℕ) : Type 0 where
  pub partition : IsPartition (length g) x
  pub tests : TestsThese g t target vertices x none y mid
  pub keeps : KeepsFree g target.player (record y { free = t }) mid z list
  pub fit : FitsPartition (length g) z.free z list
  pub done : AttractsNoFurther g target.player (union (free_of t y) (listed mid)) (listed list) (listed list)

module _ {g : Graph} {t target : Tail} {vertices : List ℕ} {x y z : Partition} {none mid list : List ℕ}
    (h : AttractsInTwo g t target vertices x none y mid z list) where
  abbrev aimed : List ℕ
  aimed = since target x.settled

  abbrev later : HasFewerFree t y z
  later = fewer_from h.keeps.1

  abbrev fewer : HasFewerFree t x z
  fewer = fewer_then h.tests.tests.fewer later

  pub fits : FitsPartition (length g) t z list
  fits = subst (λ u. FitsPartition (length g) u z list) h.keeps.0 h.fit

  whole : HasTaken g target.player (free_of t x) x.subgame.plan aimed (free_of t z) z.subgame.plan (aimed ++ list)
  whole = h.keeps.2 aimed (λ v i. h.tests.tests.fewer.free v (h.tests.aims.apart v i)) (free_of t x) x.subgame.plan aimed (half h.tests)

  second : HasTaken g target.player (free_of t y) y.subgame.plan mid (free_of t z) z.subgame.plan list
  second = h.keeps.2 [] (λ v i. absurd (cc i)) (free_of t y) y.subgame.plan mid grown_none

  free_now : (v : ℕ) → free_of t z v ≡ without (free_of t x) (listed list) v
  free_now v = whole.active_is v ∙ ap (λ xs. free_of t x v && not (listed xs v)) (sym (append_cancel_left aimed list whole.more whole.list_is))

  pub whole_grown : HasTaken g target.player (free_of t x) x.subgame.plan aimed (without (free_of t x) (listed list)) z.subgame.plan (aimed ++ list)
  whole_grown = subst (λ F. HasTaken g target.player (free_of t x) x.subgame.plan aimed F z.subgame.plan (aimed ++ list)) (fun_ext free_now) whole

  still_free : (v : ℕ) → In (without (free_of t x) (listed list)) v → In (free_of t y) v
  still_free v i = was_free later v (free_now v ∙ i)

  in_neither : (w : ℕ) → listed aimed w ≡ false → listed list w ≡ false → listed (aimed ++ list) w ≡ false
  in_neither w a b = false_from_ne_true (listed (aimed ++ list) w)
      (λ i. elim (prefix_or_rest aimed list w i) [ inl k ↦ no_both k a | inr k ↦ no_both k b ])

  pub whole_done : AttractsNoFurther g target.player (union (free_of t x) (listed aimed)) (listed (aimed ++ list)) (listed (aimed ++ list))
  whole_done = record {
    own = λ v w u n o e. in_neither w ((first_done h.tests).own v w u (not_half v n) o e)
        (h.done.own v w (or_left (free_of t y v) (listed mid v) (free_left v u n)) (out v n).1 o e);
    other = λ v u n o. (let q = h.done.other v (or_left (free_of t y v) (listed mid v) (free_left v u n)) (out v n).1 o in
        let f = left q.0 q.2 q.3 in (
          q.0,
          q.1,
          or_left (free_of t x q.0) (listed aimed q.0) f,
          in_neither q.0 (false_from_ne_true (listed aimed q.0) (λ k. no_both f (h.tests.aims.apart q.0 k))) q.3,
        ));
  }
    where
      out : (v : ℕ) → listed (aimed ++ list) v ≡ false → (listed aimed v ≡ false) × (listed list v ≡ false)
      out v n = or_parts (listed aimed v) (listed list v) (sym (listed-append aimed list v) ∙ n)

      free_left : (v : ℕ) → In (union (free_of t x) (listed aimed)) v → listed (aimed ++ list) v ≡ false → In (free_of t y) v
      free_left v u n = elim (or_cases (free_of t x v) (listed aimed v) u) [
        | inl f ↦ still_free v (minus f (out v n).1)
        | inr a ↦ absurd (no_both a (out v n).0)
      ]

      not_half : (v : ℕ) → listed (aimed ++ list) v ≡ false → listed (aimed ++ mid) v ≡ false
      not_half v n = false_from_ne_true (listed (aimed ++ mid) v)
          (λ i. elim (prefix_or_rest aimed mid v i) [ inl a ↦ no_both a (out v n).0 | inr m ↦ no_both (grown_prefix second v m) (out v n).1 ])

      left : (w : ℕ) → In (union (free_of t y) (listed mid)) w → listed list w ≡ false → In (free_of t x) w
      left w u n = elim (or_cases (free_of t y w) (listed mid w) u) [
        | inl f ↦ was_free h.tests.tests.fewer w f
        | inr m ↦ absurd (no_both (grown_prefix second w m) n)
      ]

  free_kept : (v : ℕ) → In (free_of t x) v → listed list v ≡ false → In (active_of z.subgame) v ⊎ In (listed (since t z.settled)) v
  free_kept v i n = or_cases (active_of z.subgame v) (listed (since t z.settled) v) (sym (free_is t fits.partition v) ∙ (free_now v ∙ minus i n))

  out_of_list : (v : ℕ) → In (free_of t z) v → listed list v ≡ false
  out_of_list v i = not_listed fits v i

  pub active_now : (v : ℕ) → active_of z.subgame v ≡ without (active_of x.subgame) (listed list) v
  active_now v = both_ways (active_of z.subgame v) (without (active_of x.subgame) (listed list) v)
      (λ i. minus (fewer.active v i) (out_of_list v (free_is t fits.partition v ∙ or_left (active_of z.subgame v) (listed (since t z.settled) v) i)))
      (λ i. (let a = only (active_of x.subgame v) (listed list v) i in
      elim (free_kept v (free_is t h.partition v ∙ or_left (active_of x.subgame v) (listed (since t x.settled) v) a.0) a.1) [
        | inl k ↦ k
        | inr k ↦ absurd (no_both a.0 (h.partition.apart t.player v (in_drop t.from (settled_of x.settled t.player) v (fewer.rest v k))))
      ]))

  pub rest_now : (v : ℕ) → listed (since t z.settled) v ≡ without (listed (since t x.settled)) (listed list) v
  rest_now v = both_ways (listed (since t z.settled) v) (without (listed (since t x.settled)) (listed list) v)
      (λ i. minus (fewer.rest v i) (out_of_list v (free_is t fits.partition v ∙ or_right (active_of z.subgame v) (listed (since t z.settled) v) i)))
      (λ i. (let a = only (listed (since t x.settled) v) (listed list v) i in
      elim (free_kept v (free_is t h.partition v ∙ or_right (active_of x.subgame v) (listed (since t x.settled) v) a.0) a.1) [
        | inl k ↦ absurd (no_both (fewer.active v k) (h.partition.apart t.player v (in_drop t.from (settled_of x.settled t.player) v a.0)))
        | inr k ↦ k
      ]))

-- and what was listed is settled
module _ {g : Graph} (target : Tail) {vertices : List ℕ} {t : Tail} {x y z : Partition} {none mid list : List ℕ}
    (h : AttractsInTwo g t target vertices x none y mid z list) (settled : Settled)
    (placed : IsPlaced (length g) settled) (own : settled_of settled target.player ≡ settled_of z.settled target.player ++ list)
    (other : settled_of settled (opponent target.player) ≡ settled_of z.settled (opponent target.player)) where
  abbrev p : Player
  p = target.player

  abbrev end : Partition
  end = record z { settled = settled }

  pub settled_partition : IsPartition (length g) end
  settled_partition = record {
    sizes = (fits h).partition.sizes;
    placed = placed;
    apart = λ q v i. elim (own_or_other q p) [
      | inl e ↦ elim (prefix_or_rest (settled_of z.settled p) list v
          (subst (λ xs. In (listed xs) v) own (subst (λ r. In (listed (settled_of settled r)) v) e i))) [
            | inl k ↦ (fits h).partition.apart p v k
            | inr k ↦ false_from_ne_true (active_of z.subgame v) (λ m.
                no_both (free_is t (fits h).partition v ∙ or_left (active_of z.subgame v) (listed (since t z.settled) v) m) ((fits h).apart v k))
          ]
      | inr e ↦ (fits h).partition.apart (opponent p) v (subst (λ xs. In (listed xs) v) other (subst (λ r. In (listed (settled_of settled r)) v) e i))
    ];
  }

  loses : p ≡ opponent t.player → LosesFree t x end list
  loses e =
      let his : settled_of settled t.player ≡ settled_of z.settled t.player =
      subst (λ q. settled_of settled q ≡ settled_of z.settled q) (ap opponent e ∙ twice t.player) other in
      record {
        before = ap (λ xs. take t.from xs) his ∙ (fewer h).own;
        rest = λ v. ap (λ xs. listed (drop t.from xs) v) his ∙ rest_now h v;
      }

  pub attracts_free : AttractsFree g t target x end list
  attracts_free = record {
    grown = whole_grown h;
    done = whole_done h;
    settled = own ∙ ap (λ xs. xs ++ list) (settled_same p h.tests.aims.side (fewer h));
    active = active_now h;
    opponents = loses;
    own = λ e. subst (λ q. settled_of settled (opponent q) ≡ settled_of z.settled (opponent q)) e other ∙ (fewer h).other;
  }
