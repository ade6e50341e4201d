-- The steps of an attraction, and what it is when nothing is left to do.
use Rattle.pg_dominion.proofs.Common.{◌≡◌, ◌≢◌, ℕ, ◌<◌, Bool, true, false, ◌||◌, ◌⊎◌, inl, inr, List, [], ◌∷◌, ◌++◌, length, take, drop, get_or, set, refl, sym}
use Rattle.pg_dominion.proofs.Common.{◌∙◌, ap, subst, arith, length-append, get_or-set_same, get_or-set_other, rules, Option, ◌==◌, if◌then◌else◌, eqb-true}
use Rattle.pg_dominion.proofs.Common.{eq-eqb, false_from_ne_true, cases_Bool, or_left, or_right, or_cases, append-nil, take-append-le, take-append-drop, Player}
use Rattle.pg_dominion.proofs.Common.{Graph, HasEdge, owner_of, successors_of, VertexSet, In, Within, union, IsSubgame, ClaimRows, named, IsAttraction}
use Rattle.pg_dominion.proofs.Common.{AttractsNoFurther, IsTakenOrOpen, LeadFrom}
use Rattle.std.proofs.Common.{append_assoc}
use Rattle.pg_game.specs.Attractor.{Attracts}
use Rattle.pg_game.proofs.Players.{own_or_other, not_own}
use Rattle.pg_game.proofs.Members.{some_or_none}
use Rattle.pg_dominion.specs.Attraction.{AttractInTurn}
use Rattle.pg_dominion.specs.AttractorState.{HasOpen}
use Rattle.pg_dominion.specs.ExtendedRows.{Continues}
use Rattle.pg_dominion.proofs.Named.{named-append}
use Rattle.pg_dominion.proofs.Rows.{named-push, LeadsTo-same}

module _ (g : Graph) (p : Player) (U : VertexSet) where
  -- a way out that is left now was left before
  pub HasOpen-before : (S S' : VertexSet) (v : ℕ) → Within S S' → HasOpen g U S' v → HasOpen g U S v
  HasOpen-before S S' v w (x, e, u, f) = (x, e, u, false_from_ne_true (S x) (λ t. let h = w x t in cc (h, f)))

  pub IsSettled-before : (B S S' : VertexSet) (v : ℕ) → Within B S → IsTakenOrOpen g p U S S' v → IsTakenOrOpen g p U B S' v
  IsSettled-before B S S' v w h = elim h [
    | inl i ↦ inl i
    | inr (inl (o, none)) ↦ inr (inl (o, λ x e. false_from_ne_true (B x) (λ t. (let a = w x t in let b = none x e in cc (a, b)))))
    | inr (inr (o, way)) ↦ inr (inr (o, HasOpen-before B S v w way))
  ]

  pub IsSettled-later : (B S S' : VertexSet) (v : ℕ) → Within S S' → IsTakenOrOpen g p U B S v → IsTakenOrOpen g p U B S' v
  IsSettled-later x0 x1 x2 v w x5 = search (rules)

  -- one more vertex is done, once those with an edge to it are settled
  pub IsDone-more : (D D' S S' : VertexSet) (to : ℕ) → Within S S' → Within D' S → ((x : ℕ) → In D' x → In D x ⊎ (x ≡ to))
      → ((u : ℕ) → In U u → HasEdge g u to → IsTakenOrOpen g p U S S' u) → AttractsNoFurther g p U D S → AttractsNoFurther g p U D' S'
  IsDone-more D D' S S' to grows sub more settled d = record { own = own; other = other }
    where
      before : (v : ℕ) → S' v ≡ false → S v ≡ false
      before v f = false_from_ne_true (S v) (λ t. let h = grows v t in cc (h, f))

      out : (x : ℕ) → D x ≡ false → x ≢ to → D' x ≡ false
      out x f n = false_from_ne_true (D' x) (λ t. elim (more x t) [ inl i ↦ cc (i, f) | inr e ↦ n e ])

      untaken : (x : ℕ) → S x ≡ false → D' x ≡ false
      untaken x f = false_from_ne_true (D' x) (λ t. let h = sub x t in cc (h, f))

      edge_or_not : (v : ℕ) → HasEdge g v to ⊎ ((w : ℕ) → HasEdge g v w → w ≢ to)
      edge_or_not v = elim (some_or_none (λ x. x == to) (successors_of g v)) [
        | inl (x, m, t) ↦ inl (subst (HasEdge g v) (eqb-true x to t) m)
        | inr none ↦ inr (λ w m e. (let t : (w == to) ≡ true = eq-eqb w to e in cc (none w m, t)))
      ]

      own : (v w : ℕ) → In U v → S' v ≡ false → owner_of g v ≡ p → HasEdge g v w → D' w ≡ false
      own v w u f o e = elim (edge_or_not v) [
        | inl m ↦ elim (settled v u m) [
          | inl i ↦ absurd (cc (i, f))
          | inr (inl (o', none)) ↦ untaken w (none w e)
          | inr (inr (n, way)) ↦ absurd (n o)
        ]
        | inr none ↦ out w (d.own v w u (before v f) o e) (none w e)
      ]

      other : (v : ℕ) → In U v → S' v ≡ false → owner_of g v ≢ p → HasOpen g U D' v
      other v u f o = elim (edge_or_not v) [
        | inl m ↦ elim (settled v u m) [
          | inl i ↦ absurd (cc (i, f))
          | inr (inl (o', none)) ↦ absurd (o o')
          | inr (inr (n, q)) ↦ (q.0, q.1, q.2, untaken q.0 q.3)
        ]
        | inr none ↦ (let q = d.other v u (before v f) o in (q.0, q.1, q.2, out q.0 q.3 (none q.0 q.1)))
      ]

  -- at the start nothing is done
  pub IsDone-none : (D S : VertexSet) → IsSubgame g U → ((x : ℕ) → D x ≡ false) → AttractsNoFurther g p U D S
  IsDone-none D S sub none = record {
    own = λ v w u f o e. none w;
    other = λ v u f o. (let q = sub.successor v u in (q.0, q.1, q.2, none q.0));
  }

-- a list after a write, at any place
pub read_set : {X : Type 0} (xs : List X) (v x : ℕ) (y d : X) → v < length xs → get_or (set xs v y) x d ≡ (if v == x then y else get_or xs x d)
read_set xs v x y d l = search (rules, eqb-true, get_or-set_same, eq-eqb, get_or-set_other)

pub Continues-push : (xs : ClaimRows) (r : ℕ × Option ℕ) → Continues xs (xs ++ r ∷ [])
Continues-push xs r = record { longer = omega (arith, length-append xs (r ∷ [])); front = λ n l. take-append-le n xs (r ∷ []) l }

-- the rows after the first are what those attract
module _ (g : Graph) (p : Player) (U : VertexSet) (R rows : ClaimRows) (front : take (length R) rows ≡ R)
    (turns : LeadFrom g p U (length R) rows) (done : AttractsNoFurther g p U (named rows) (named rows)) where
  abbrev A : ClaimRows
  A = drop (length R) rows

  whole : R ++ A ≡ rows
  whole = ap (λ (xs : ClaimRows). xs ++ A) (sym front) ∙ take-append-drop (length R) rows

  in_turn : AttractInTurn g p U (named R) A
  in_turn before after r e =
      LeadsTo-same g p U (named (R ++ before)) (union (named R) (named before)) r (λ v. named-append R before v)
      (turns (R ++ before) after r (sym whole ∙ (ap (λ (xs : ClaimRows). R ++ xs) e ∙ sym (append_assoc R before (r ∷ after))))
      (omega (arith, length-append R before)))

  names : (v : ℕ) → union (named R) (named A) v ≡ named rows v
  names v = sym (named-append R A v) ∙ ap (λ (xs : ClaimRows). named xs v) whole

  lies : (S : VertexSet) → Attracts g p U (named R) S → (before after : ClaimRows) → A ≡ before ++ after → Within (union (named R) (named before)) S
      → Within (union (named R) (named A)) S
  lies S a before [] e within = subst (λ (xs : ClaimRows). Within (union (named R) (named xs)) S) (sym (e ∙ append-nil before)) within
  lies S a before (r ∷ after) e within =
      let l = in_turn before after r e in
      let i : In S r.0 = elim (own_or_other (owner_of g r.0) p) [
        | inl o ↦ (let c = l.own o in a.own r.0 c.0 l.inside o c.2 (within c.0 c.3))
        | inr o ↦ (let f = l.forced (not_own p (owner_of g r.0) o) in a.forced r.0 l.inside o (λ w m u. within w (f.1 w m u)))
      ] in
      lies S a (before ++ r ∷ []) after (e ∙ sym (append_assoc before (r ∷ []) after)) (λ v h. one_more v i h)
    where
      one_more : (v : ℕ) → In S r.0 → In (union (named R) (named (before ++ r ∷ []))) v → In S v
      one_more v i h = elim (or_cases (named R v) (named (before ++ r ∷ []) v) h) [
        | inl old ↦ within v (or_left (named R v) (named before v) old)
        | inr new ↦ elim (or_cases (named before v) (r.0 == v) (sym (named-push before r v) ∙ new)) [
          | inl old ↦ within v (or_right (named R v) (named before v) old)
          | inr e' ↦ subst (λ (u : ℕ). In S u) (eqb-true r.0 v e') i
        ]
      ]

  attracts : Attracts g p U (named R) (named rows)
  attracts = record {
    target = λ v t. sym (names v) ∙ or_left (named R v) (named A v) t;
    own = λ v w u o e i. elim (cases_Bool (named rows v)) [
      | inl t ↦ t
      | inr f ↦ absurd (let h = done.own v w u f o e in cc (h, i))
    ];
    forced = λ v u o h. elim (cases_Bool (named rows v)) [
      | inl t ↦ t
      | inr f ↦ absurd (let q = done.other v u f (not_own p (owner_of g v) o) in let i = h q.0 q.1 q.2 in cc (i, q.3))
    ];
  }

  pub grown_attraction : IsAttraction g p U (named R) A
  grown_attraction = record {
    turns = in_turn;
    exact = λ v. (
      λ i S at. lies S at [] A refl (λ x h. at.target x (only_first (named R x) h)) v i,
      λ h. names v ∙ h (named rows) attracts,
    );
  }
    where
      only_first : (b : Bool) → (b || false) ≡ true → b ≡ true
      only_first true h = refl
      only_first false h = absurd (cc h)

  pub grown_rows : rows ≡ R ++ A
  grown_rows = sym whole
