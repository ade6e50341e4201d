-- What a player attracts to some unsettled vertices in the unsettled part is, beside his region, all that his
-- region and these vertices attract in the whole game.
use Rattle.pg_board.proofs.Common.{rules, ◌≡◌, ℕ, true, ◌⊎◌, inl, inr, length, refl, sym, ◌∙◌, ltb-true, Option, nat_lt, and_parts, or_left, or_right, or_cases}
use Rattle.pg_board.proofs.Common.{cases_Bool, or_assoc, Player, opponent, Graph, IsGame, HasEdge, owner_of, edge_inside, VertexSet, In, Within, all_vertices}
use Rattle.pg_board.proofs.Common.{union, Attractor, IsRegion, is_same, same_is, target_attracted, kept_own, kept_other, ClaimRows, named, IsAttractedRow}
use Rattle.pg_board.proofs.Common.{IsAttraction, State, settled, choices, is_unsettled, unsettled, IsLawfulState}
use Rattle.pg_game.specs.Attractor.{Attracts}
use Rattle.pg_game.proofs.Players.{other_from_not}
use Rattle.pg_game.proofs.Attract.{own_attracted, forced_attracted}
use Rattle.pg_dominion.proofs.Rows.{LeadsTo-same}
use Rattle.pg_board.proofs.PushedEntry.{open_unsettled, neither_open}
use Rattle.pg_board.proofs.NoRowOfOpponent.{differs}

module _ (g : Graph) (game : IsGame g) (st : State) (lawful : IsLawfulState g st) (p : Player) where
  abbrev U : VertexSet
  U = unsettled g st

  abbrev Own : VertexSet
  Own = settled st p

  abbrev Other : VertexSet
  Other = settled st (opponent p)

  -- each vertex is the player's, the opponent's or unsettled
  pub part_of : (v : ℕ) → In (all_vertices g) v → (In Own v ⊎ In Other v) ⊎ In U v
  part_of v i = elim (cases_Bool (settled st p v)) [
    | inl x ↦ inl (inl x)
    | inr x ↦ elim (cases_Bool (settled st (opponent p) v)) [ inl y ↦ inl (inr y) | inr y ↦ inr (rw (i, neither_open p (st v) x y) refl) ]
  ]

  open_of : (v : ℕ) → In U v → is_unsettled (st v) ≡ true
  open_of v u = (and_parts (nat_lt v (length g)) (is_unsettled (st v)) u).1

  pub all_of : (v : ℕ) → In U v → In (all_vertices g) v
  all_of v u = (and_parts (nat_lt v (length g)) (is_unsettled (st v)) u).0

  edge_in : (v w : ℕ) → In (all_vertices g) v → HasEdge g v w → In (all_vertices g) w
  edge_in v w i e = edge_inside g game v w (ltb-true v (length g) i) e

  -- from an unsettled vertex of the opponent no edge leads into the opponent's region
  pub not_to_other : (v w : ℕ) → In U v → owner_of g v ≡ opponent p → HasEdge g v w → In Other w → ⊥
  not_to_other v w u o e i =
      let a = lawful.attracted (opponent p) v
      (own_attracted g (opponent p) (all_vertices g) Other v w (all_of v u) o e (target_attracted g (opponent p) (all_vertices g) Other w i)) in
      let f = open_unsettled (opponent p) (st v) (open_of v u) in cc (a, f)

  -- nor from one of the player into the player's
  not_to_own : (v w : ℕ) → In U v → owner_of g v ≡ p → HasEdge g v w → In Own w → ⊥
  not_to_own v w u o e i =
      search (rules, lawful.attracted, own_attracted, all_of, target_attracted, open_unsettled, open_of, open_unsettled p (st v) (open_of v u))

  -- the opponent can't leave his part of the edges into the player's set
  in_set : (S : VertexSet) → Within Own S → (v : ℕ) → In U v → owner_of g v ≡ opponent p → ((w : ℕ) → HasEdge g v w → In U w → In S w)
      → (w : ℕ) → HasEdge g v w → In S w
  in_set S own v u o h w e = elim (part_of w (edge_in v w (all_of v u) e)) [
    | inl a ↦ elim a [ inl i ↦ own w i | inr i ↦ absurd (not_to_other v w u o e i) ]
    | inr i ↦ h w e i
  ]

  -- a vertex of the player's set is not the opponent's
  not_other : (X : VertexSet) → Within X U → (w : ℕ) → In (union Own X) w → In Other w → ⊥
  not_other X into w i o = search (rules, or_cases, open_unsettled, open_of, differs, same_is)

  pub leads_whole : (S : VertexSet) (r : ℕ × Option ℕ) → IsAttractedRow g p U S r → IsAttractedRow g p (all_vertices g) (union Own S) r
  leads_whole S r l = record {
    inside = all_of r.0 l.inside;
    fresh = rw (open_unsettled p (st r.0) (open_of r.0 l.inside)) l.fresh;
    own = λ o. (let c = l.own o in (c.0, c.1, c.2, or_right (settled st p c.0) (S c.0) c.3));
    forced = λ o. (let f = l.forced o in (
      f.0,
      λ w e i. in_set (union Own S) (λ x a. or_left (settled st p x) (S x) a) r.0 l.inside (other_from_not p (owner_of g r.0) o)
          (λ x m u. or_right (settled st p x) (S x) (f.1 x m u)) w e,
    ));
  }

  module _ (T : VertexSet) (inside : Within T U) (rows : ClaimRows) (a : IsAttraction g p U T rows) where
    abbrev Taken : VertexSet
    Taken = union T (named rows)

    pub taken_inside : Within Taken U
    taken_inside v i = (a.exact v).0 i U (record { target = inside; own = λ x w u o e h. u; forced = λ x u o h. u })

    split : (v : ℕ) → In (union (union Own T) (named rows)) v → In (union Own Taken) v
    split v i = sym (or_assoc (settled st p v) (T v) (named rows v)) ∙ i

    into : (v : ℕ) → In (union Own Taken) v → Attractor g p (all_vertices g) (union Own T) v
    into v i S at = elim (or_cases (settled st p v) (Taken v) i) [
      | inl o ↦ at.target v (or_left (settled st p v) (T v) o)
      | inr t ↦ (a.exact v).0 t S (record {
        target = λ x h. at.target x (or_right (settled st p x) (T x) h);
        own = λ x w u o e h. at.own x w (all_of x u) o e h;
        forced = λ x u o h. at.forced x (all_of x u) o (λ w e h'. in_set S (λ y b. at.target y (or_left (settled st p y) (T y) b)) x u o h w e);
      })
    ]

    other : IsRegion g (opponent p) Other (choices st)
    other = lawful.regions (opponent p)

    attracts : Attracts g p (all_vertices g) (union Own T) (union Own Taken)
    attracts = record {
      target = λ v i. split v (or_left (union Own T v) (named rows v) i);
      own = λ v w i o e h. elim (part_of v i) [
        | inl x ↦ elim x [
          | inl b ↦ or_left (settled st p v) (Taken v) b
          | inr b ↦ absurd (not_other Taken taken_inside w h
              (other.closed v w (kept_other g (opponent p) Other (choices st) v w b (differs p (owner_of g v) o) e)))
        ]
        | inr u ↦ elim (or_cases (settled st p w) (Taken w) h) [
          | inl b ↦ absurd (not_to_own v w u o e b)
          | inr t ↦ or_right (settled st p v) (Taken v) ((a.exact v).1 (own_attracted g p U T v w u o e ((a.exact w).0 t)))
        ]
      ];
      forced = λ v i o h. elim (part_of v i) [
        | inl x ↦ elim x [
          | inl b ↦ or_left (settled st p v) (Taken v) b
          | inr b ↦ absurd (let c = other.choices v b o in
              not_other Taken taken_inside c.0 (h c.0 c.2 (edge_in v c.0 i c.2))
              (other.closed v c.0 (kept_own g (opponent p) Other (choices st) v c.0 b (is_same (owner_of g v) (opponent p) o) c.1)))
        ]
        | inr u ↦ or_right (settled st p v) (Taken v) ((a.exact v).1 (forced_attracted g p U T v u o (λ w e iu. (a.exact w).0 (
            elim (or_cases (settled st p w) (Taken w) (h w e (all_of w iu))) [
              | inl b ↦ absurd (let f = open_unsettled p (st w) (open_of w iu) in cc (f, b))
              | inr t ↦ t
            ]))))
      ];
    }

    pub whole : IsAttraction g p (all_vertices g) (union Own T) rows
    whole = record {
      turns = λ before after r e. search (rules, LeadsTo-same, or_assoc, leads_whole, a.turns);
      exact = λ v. (λ i. into v (split v i), λ h. (or_assoc (settled st p v) (T v) (named rows v) ∙ (h (union Own Taken) attracts)));
    }
