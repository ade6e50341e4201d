-- What a search that found no way back has shown of all that it reached.
use Rattle.pg_dominion.proofs.Common.{◌≡◌, ◌≢◌, ℕ, ◌+◌, ◌<◌, ◌≤◌, ◌⊎◌, inl, inr, List, [], ◌∷◌, length, set, refl, sym, ◌∙◌, ap, subst, arith, length-set}
use Rattle.pg_dominion.proofs.Common.{get_or-set_same, get_or-set_other, rules, cases_eq, cases_lt, get_or-replicate, get_or_past, priority_of, Walk}
use Rattle.pg_dominion.proofs.Common.{StrategyGraph}
use Rattle.pg_dominion.proofs.Common.{EdgeUnder, Leads, Reaches, AreLabelled, IsQueued, IsFollowed, AreReached, IsSpread, AreNoted, label_lists, reached_lists}
use Rattle.std.proofs.Common.{replicate}
use Rattle.std.proofs.lemmas.List.{length-replicate}
use Rattle.std.specs.Prelude.{slice_index}
use Rattle.pg_dominion.specs.private.KeptEdges.{AreAlike, IsPassed, IsGroupAt, IsBefore}
use Rattle.pg_dominion.proofs.SearchSteps.{Leads-edge, Leads-then, Leads-weaker}

pub queued_or : (places queue : List ℕ) (x : ℕ) → IsQueued places queue x ⊎ (IsQueued places queue x → ⊥)
queued_or places queue x = search (rules, cases_lt, cases_eq)

blank_at : (n x : ℕ) → slice_index (replicate n 0) x ≡ 0
blank_at n x = search (rules, cases_lt, get_or-replicate, get_or_past, length-replicate)

-- before any search
pub labelled_blank : (k : StrategyGraph) (n : ℕ) → n ≡ length k.game.now → (levels groups : List ℕ) → levels ≡ replicate n 0 → groups ≡ replicate n 0
    → AreLabelled k levels groups
labelled_blank k n e levels groups l m = search (rules, length-replicate, blank_at)

module _ (levels groups places queue : List ℕ) (level start least : ℕ) where
  pub noted_none : AreNoted (label_lists levels groups) (reached_lists places queue least) level start 0 (label_lists levels groups)
  noted_none = search (rules)

  pub noted_next : (levels' groups' : List ℕ) (n v g : ℕ) → slice_index queue n ≡ v → slice_index places v ≡ n → v < length levels'
      → v < length groups'
      → IsGroupAt start least n v g → AreNoted (label_lists levels groups) (reached_lists places queue least) level start n (label_lists levels' groups')
      → AreNoted (label_lists levels groups) (reached_lists places queue least) level start (n + 1) (label_lists (set levels' v level) (set groups' v g))
  noted_next levels' groups' n v g e p l m h old = record {
    levels_size = length-set levels' v level ∙ old.levels_size;
    groups_size = length-set groups' v g ∙ old.groups_size;
    inside = λ x b. elim (cases_eq x v) [
      | inl q ↦ rw q (get_or-set_same levels' v level 0 l)
      | inr q ↦ get_or-set_other levels' v x level 0 q ∙ old.inside x (earlier x b q)
    ];
    group = λ x b. elim (cases_eq x v) [
      | inl q ↦ (let f : slice_index (set groups' v g) x ≡ g = ap (λ (u : ℕ). slice_index (set groups' v g) u) q ∙ get_or-set_same groups' v g 0 m in
          let i : slice_index places x ≡ n = ap (λ (u : ℕ). slice_index places u) q ∙ p in
          elim h [ inl a ↦ inl (omega (arith, a.0, i), omega (arith, f, a.1, q)) | inr a ↦ inr (omega (arith, a.0, i), omega (arith, f, a.1)) ])
      | inr q ↦ subst (λ (o : ℕ). IsGroupAt start least (slice_index places x) x o) (sym (get_or-set_other groups' v x g 0 q)) (old.group x (earlier x b q))
    ];
    outside = λ x b.
        let q : x ≢ v =
        λ f. b (let i : slice_index places x ≡ n = ap (λ (u : ℕ). slice_index places u) f ∙ p in
        (omega (arith, i), ap (λ (u : ℕ). slice_index queue u) i ∙ e ∙ sym f)) in
        let o = old.outside x (λ d. b (omega (arith, d.0), d.1)) in
        (get_or-set_other levels' v x level 0 q ∙ o.0, get_or-set_other groups' v x g 0 q ∙ o.1);
  }
    where
      earlier : (x : ℕ) → IsBefore places queue (n + 1) x → x ≢ v → IsBefore places queue n x
      earlier x b q = elim (cases_lt (slice_index places x) n) [
        | inl a ↦ (a, b.1)
        | inr a ↦ absurd (q (let i : slice_index places x ≡ n = omega (arith, a, b.0) in sym b.1 ∙ ap (λ (u : ℕ). slice_index queue u) i ∙ e))
      ]

-- a search that has reached its start alone
pub searching_first : (k : StrategyGraph) (levels groups : List ℕ) (top own : ℕ) (places : List ℕ) (start : ℕ) → start < length k.game.now
    → length places ≡ length k.game.now → (top < slice_index levels start → slice_index groups start ≡ own)
    → AreReached k levels groups top own (set places start 0) (start ∷ [])
searching_first k levels groups top own places start l size counts = record {
  size = length-set places start 0 ∙ size;
  some = omega arith;
  below = λ i li. rw (zero_at i li) l;
  placed = λ i li. rw (zero_at i li) (get_or-set_same places start 0 0 (omega (arith, l, size)));
  counts = λ i li. rw (zero_at i li) counts;
  reached = λ i li. rw (zero_at i li) (inl refl);
}
  where
    zero_at : (i : ℕ) → i < length (start ∷ []) → i ≡ 0
    zero_at i li = omega (arith, li)

module _ (k : StrategyGraph) (levels groups : List ℕ) (top own least : ℕ) (places queue : List ℕ)
    (labels : AreLabelled k levels groups) (s : AreReached k levels groups top own places queue)
    (all : (i : ℕ) → i < length queue → IsSpread k levels groups top own least places queue i) where
  followed : (x w : ℕ) → IsQueued places queue x → EdgeUnder k top x w → IsFollowed levels groups top own least places queue (slice_index places x) w
  followed x w q e = all (slice_index places x) q.0 w (subst (λ (u : ℕ). EdgeUnder k top u w) (sym q.1) e)

  counts : (x : ℕ) → IsQueued places queue x → top < slice_index levels x → slice_index groups x ≡ own
  counts x q = subst (λ (u : ℕ). top < slice_index levels u → slice_index groups u ≡ own) q.1 (s.counts (slice_index places x) q.0)

  -- no vertex that was passed over lies on a closed walk with one that was reached
  not_passed : (x z : ℕ) → IsQueued places queue x → Leads k top x z → Leads k top z x → IsPassed levels groups top own z → ⊥
  not_passed x z q there back p =
      let same = labels.together top z x p.0 back there in
      p.1 (sym same.0 ∙ counts x q (omega (arith, same.1, p.0)))

  stay : (x : ℕ) → IsQueued places queue x → (z : ℕ) (vs : List ℕ) (last : ℕ) → ((z ≡ x) ⊎ Leads k top x z) → IsQueued places queue z
      → Walk (EdgeUnder k top) z vs last → Leads k top last x → IsQueued places queue last
  stay x q z [] last before qz e after = elim (followed z last qz e) [
    | inl p ↦ absurd (not_passed x last q (Leads-edge k top x z last before e) after p)
    | inr h ↦ h.0
  ]
  stay x q z (y ∷ ys) last before qz walk after =
      let there = Leads-edge k top x z y before walk.0 in
      elim (followed z y qz walk.0) [
        | inl p ↦ absurd (not_passed x y q there (Leads-then k top y last x (ys, walk.1) after) p)
        | inr h ↦ stay x q y ys last (inr there) h.0 walk.1 after
      ]

  -- a closed walk that meets what was reached stays there
  pub stays_queued : (x y : ℕ) → IsQueued places queue x → Leads k top x y → Leads k top y x → IsQueued places queue y
  stays_queued x y q (vs, walk) back = stay x q x vs y (inl refl) q walk back

  next_place : (x z w : ℕ) → IsQueued places queue x → slice_index places x < least → IsQueued places queue z
      → slice_index places x ≤ slice_index places z → Leads k top x w → Leads k top w x → EdgeUnder k top z w
      → IsQueued places queue w × (slice_index places x < slice_index places w)
  next_place x z w q l qz up there back e = elim (followed z w qz e) [
    | inl p ↦ absurd (not_passed x w q there back p)
    | inr h ↦ (h.0, elim h.1 [ inl a ↦ omega (arith, a, up) | inr b ↦ omega (arith, b, l) ])
  ]

  rises : (x : ℕ) → IsQueued places queue x → slice_index places x < least → (z : ℕ) (vs : List ℕ) (last : ℕ)
      → ((z ≡ x) ⊎ Leads k top x z) → IsQueued places queue z → slice_index places x ≤ slice_index places z → Walk (EdgeUnder k top) z vs last
      → Leads k top last x → slice_index places x < slice_index places last
  rises x q l z [] last before qz up e after = (next_place x z last q l qz up (Leads-edge k top x z last before e) after e).1
  rises x q l z (y ∷ ys) last before qz up walk after =
      let there = Leads-edge k top x z y before walk.0 in
      let h = next_place x z y q l qz up there (Leads-then k top y last x (ys, walk.1) after) walk.0 in
      rises x q l y ys last (inr there) h.0 (omega (arith, h.1)) walk.1 after

  -- no closed walk goes through a place before the least that was reached twice
  pub no_closed : (x : ℕ) → IsQueued places queue x → slice_index places x < least → Leads k top x x → ⊥
  no_closed x q l (vs, walk) = absurd (let h = rises x q l x vs x (inl refl) q (omega arith) walk (vs, walk) in omega (arith, h))

  pub first_queued : IsQueued places queue (slice_index queue 0) × (slice_index places (slice_index queue 0) ≡ 0)
  first_queued = search (rules, s.placed, s.some)

  no_way_back : 0 < least → Leads k top (slice_index queue 0) (slice_index queue 0) → ⊥
  no_way_back l walk = no_closed (slice_index queue 0) first_queued.0 (omega (arith, l, first_queued.1)) walk

  pub none_reached : 0 < least → (start : ℕ) → slice_index queue 0 ≡ start → top ≡ priority_of k.game.now start → Reaches k start start → ⊥
  none_reached l start e t r = no_way_back l (subst (λ (x : ℕ). Leads k top x x) (sym e) (subst (λ (u : ℕ). Leads k u start start) (sym t) r))

  low : own ≡ 0 → (x : ℕ) → IsQueued places queue x → slice_index levels x ≤ top
  low o x q = search (rules, cases_lt, labels.blank, counts)

  module _ (o : own ≡ 0) (pos : 0 < least) (levels' groups' : List ℕ)
      (noted : AreNoted (label_lists levels groups) (reached_lists places queue least) (top + 1) (slice_index queue 0) (length queue)
      (label_lists levels' groups')) where
    together_in : (t x y : ℕ) → IsQueued places queue x → t < slice_index levels' x → Leads k t x y → Leads k t y x → AreAlike levels' groups' x y
    together_in t x y q l there back =
        let lt : t ≤ top = omega (arith, l, noted.inside x q) in
        let there' = Leads-weaker k t top x y lt there in
        let back' = Leads-weaker k t top y x lt back in
        let qy = stays_queued x y q there' back' in (
          sym (grouped x q (Leads-then k top x y x there' back') ∙ sym (grouped y qy (Leads-then k top y x y back' there'))),
          noted.inside y qy
              ∙ sym (noted.inside x q),
        )
      where
        grouped : (z : ℕ) → IsQueued places queue z → Leads k top z z → slice_index groups' z ≡ slice_index queue 0 + 1
        grouped z qz walk = elim (noted.group z qz) [ inl h ↦ absurd (no_closed z qz h.0 walk) | inr h ↦ h.1 ]

    together_out : (t x y : ℕ) → (IsQueued places queue x → ⊥) → t < slice_index levels' x → Leads k t x y → Leads k t y x
        → AreAlike levels' groups' x y
    together_out t x y n l there back =
        let out = noted.outside x n in
        let old = labels.together t x y (omega (arith, l, out.0)) there back in
        elim (queued_or places queue y) [
          | inl q ↦ (let lt : t ≤ top = omega (arith, l, out.0, old.1, low o y q) in
              absurd (n (stays_queued y x q (Leads-weaker k t top y x lt back) (Leads-weaker k t top x y lt there))))
          | inr m ↦ (let out' = noted.outside y m in (out'.1 ∙ old.0 ∙ sym out.1, out'.0 ∙ old.1 ∙ sym out.0))
        ]

    alone_in : (t x : ℕ) → IsQueued places queue x → t < slice_index levels' x → slice_index groups' x ≡ x + 1 → Leads k t x x → ⊥
    alone_in t x q l e walk =
        let lt : t ≤ top = omega (arith, l, noted.inside x q) in
        elim (noted.group x q) [
          | inl h ↦ no_closed x q h.0 (Leads-weaker k t top x x lt walk)
          | inr h ↦ (let same : x ≡ slice_index queue 0 = omega (arith, e, h.1) in
              let p : slice_index places x ≡ 0 = ap (λ (u : ℕ). slice_index places u) same ∙ first_queued.1 in
              absurd (omega (arith, p, h.0, pos)))
        ]

    some_group : (x : ℕ) → IsQueued places queue x → slice_index groups' x ≡ 0 → ⊥
    some_group x q e = elim (noted.group x q) [ inl h ↦ absurd (omega (arith, e, h.1)) | inr h ↦ absurd (omega (arith, e, h.1)) ]

    pub labelled_more : AreLabelled k levels' groups'
    labelled_more = record {
      levels_size = noted.levels_size ∙ labels.levels_size;
      groups_size = noted.groups_size ∙ labels.groups_size;
      blank = λ x e. elim (queued_or places queue x) [
        | inl q ↦ absurd (some_group x q e)
        | inr n ↦ (let out = noted.outside x n in out.0 ∙ labels.blank x (sym out.1 ∙ e))
      ];
      together = λ t x y l there back. elim (queued_or places queue x) [
        | inl q ↦ together_in t x y q l there back
        | inr n ↦ together_out t x y n l there back
      ];
      alone = λ t x l e walk. elim (queued_or places queue x) [
        | inl q ↦ alone_in t x q l e walk
        | inr n ↦ (let out = noted.outside x n in labels.alone t x (omega (arith, l, out.0)) (sym out.1 ∙ e) walk)
      ];
    }
