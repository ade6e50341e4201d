-- What a player holds in a subgame is a good claim of it.
use Rattle.pg_finders.proofs.Common.{rules, ◌≡◌, ℕ, zero, suc, ◌<◌, Bool, true, false, ◌&&◌, ◌||◌, ◌⊎◌, inl, inr, length, refl, sym, ◌∙◌, ap}
use Rattle.pg_finders.proofs.Common.{subst, ltb-true, None, if◌then◌else◌, Contains, cases_Bool, Player, Even, Odd, same_player, Graph, HasEdge}
use Rattle.pg_finders.proofs.Common.{owner_of, successors_of, VertexSet, In, IsSubgame, Choices, kept, option_list, KeptEdge, ClosedWalk-weaker, own_or_other}
use Rattle.pg_finders.proofs.Common.{same_is, is_same, Claim, ClaimRows, named, choice_in, IsGoodIn, Winners, won_inside, WinsOn, IsSolvedInside, AreClaims}
use Rattle.pg_finders.proofs.Common.{own_choices, rows_below, both_ways}
use Rattle.std.specs.List.{All}
use Rattle.std.proofs.lemmas.List.Elements.{All-nil, All-push, recursion_from_All}
use Rattle.pg_dominion.specs.Claim.{AreRight, IsRightRow}
use Rattle.pg_finders.proofs.Sets.{not_same}
use Rattle.pg_finders.proofs.SolvedSubgames.{kept_leads, choice_leads, Holds-subst}
use Rattle.pg_finders.proofs.Rows.{RowsOf, rows_of_below}

-- only the choices at the player's vertices count
pub Holds-own : (g : Graph) (U : VertexSet) (p : Player) (X : VertexSet) (s t : Choices) → ((v : ℕ) → In X v → owner_of g v ≡ p → t v ≡ s v)
    → WinsOn g U p X s → WinsOn g U p X t
Holds-own g U p X s t same h = record {
  within = h.within;
  choices = λ v i o. (let c = h.choices v i o in (c.0, same v i o ∙ c.1, c.2, c.3));
  closed = h.closed;
  good = λ walk c. h.good walk (ClosedWalk-weaker (KeptEdge g p X t) (KeptEdge g p X s)
      (λ v w k. (k.0, as_old v w k.0 k.1 (cases_Bool (same_player (owner_of g v) p)))) walk c);
}
  where
    as_old : (v w : ℕ) → In X v → Contains (kept g p t v) w → (same_player (owner_of g v) p ≡ true) ⊎ (same_player (owner_of g v) p ≡ false)
        → Contains (kept g p s v) w
    as_old v w i m (inl y) =
        subst (λ o. Contains (if same_player (owner_of g v) p then option_list o else successors_of g v) w) (same v i (same_is (owner_of g v) p y)) m
    as_old v w i m (inr n) = let a : HasEdge g v w = rw n at m in rw n a

-- the rows of a set are right where what they say of each vertex is
module _ (g : Graph) (p : Player) (X : VertexSet) (s : Choices) (right : (v : ℕ) → In X v → IsRightRow g p (v, s v)) where
  each_right : (i : ℕ) → All (IsRightRow g p) (rows_below X s i)
  each_right zero = All-nil (IsRightRow g p)
  each_right (suc i) = elim (cases_Bool (X i)) [
    | inl e ↦ rw e (All-push (IsRightRow g p) (rows_below X s i) (i, s i) (each_right i) (right i e))
    | inr e ↦ rw e (each_right i)
  ]

  pub rows_right : (i : ℕ) → AreRight g p (rows_below X s i)
  rows_right i = record {
    each = recursion_from_All (IsRightRow g p) (rows_below X s i) (each_right i);
    rising = (rows_of_below X s i).rising;
  }

module _ (g : Graph) (U : VertexSet) (p : Player) (X : VertexSet) (s : Choices) (held : WinsOn g U p X s) (inside : (v : ℕ) → In U v → v < length g) where
  abbrev t : Choices
  t = own_choices g p s

  abbrev rows : ClaimRows
  rows = rows_below X t (length g)

  facts : RowsOf X t (length g) rows
  facts = rows_of_below X t (length g)

  pub rows_named : (v : ℕ) → named rows v ≡ X v
  rows_named v = both_ways (named rows v) (X v) (λ m. (facts.named_only v m).0) (λ x. facts.names v x (inside v (held.within v x)))

  own_kept : (v : ℕ) → owner_of g v ≡ p → t v ≡ s v
  own_kept v o = rw (is_same (owner_of g v) p o) refl

  rows_held : WinsOn g U p (named rows) (choice_in rows)
  rows_held = Holds-subst (λ v. sym (rows_named v))
      (Holds-own g U p X s (choice_in rows) (λ v i o. facts.choice v (rows_named v ∙ i) ∙ own_kept v o) held)

  right : (v : ℕ) → In X v → IsRightRow g p (v, t v)
  right v i = search (rules, held.within, held.choices, own_kept, own_or_other, not_same)

  pub good_rows : 0 < length rows → IsGoodIn g U p rows
  good_rows n = record {
    sound = record {
      shape = record {
        nonempty = n;
        right = rows_right g p X t right (length g);
      };
      good = rows_held.good;
    };
    vertices = rows_held.within;
    choices = λ v w i e. elim (own_or_other (owner_of g v) p) [
      | inl o ↦ (let c = rows_held.choices v i o in rows_held.within w (subst (In (named rows)) (cc (c.1, e)) c.3))
      | inr o ↦ absurd (let h : choice_in rows v ≡ None = facts.choice v i ∙ rw (not_same (owner_of g v) p o) refl in cc (h, e))
    ];
    closed = λ v w k u. elim (kept_leads g p (choice_in rows) v w k.1) [
      | inl (o, m) ↦ (let c = rows_held.choices v k.0 o in subst (In (named rows)) (choice_leads (choice_in rows v) c.0 w c.1 m) c.3)
      | inr (o, e) ↦ rows_held.closed v w k.0 o e u
    ];
  }

-- the players' rows of a plan that solves the subgame
pub are_claims : (g : Graph) (U : VertexSet) (won : Winners) (s : Choices) → IsSubgame g U → IsSolvedInside g U won s → (even odd : Claim)
    → even.player ≡ Even → odd.player ≡ Odd → even.rows ≡ rows_below (won_inside U won Even) (own_choices g Even s) (length g)
    → odd.rows ≡ rows_below (won_inside U won Odd) (own_choices g Odd s) (length g) → AreClaims g U even odd
are_claims g U won s sub solved even odd x y e o = record {
  even_player = x;
  odd_player = y;
  disjoint = λ v i. names_odd v ∙ apart (U v) (won v) (sym (names_even v) ∙ i);
  together = λ v. rw (names_even v, names_odd v) (all (U v) (won v));
  even_good = λ n. subst (IsGoodIn g U Even) (sym e) (good_rows g U Even (won_inside U won Even) s (solved Even) inside (subst (λ rows. 0 < length rows) e n));
  odd_good = λ n. subst (IsGoodIn g U Odd) (sym o) (good_rows g U Odd (won_inside U won Odd) s (solved Odd) inside (subst (λ rows. 0 < length rows) o n));
}
  where
    inside : (v : ℕ) → In U v → v < length g
    inside v i = ltb-true v (length g) (sub.vertices v i)

    names_even : (v : ℕ) → named even.rows v ≡ won_inside U won Even v
    names_even v = ap (λ rows. named rows v) e ∙ rows_named g U Even (won_inside U won Even) s (solved Even) inside v

    names_odd : (v : ℕ) → named odd.rows v ≡ won_inside U won Odd v
    names_odd v = ap (λ rows. named rows v) o ∙ rows_named g U Odd (won_inside U won Odd) s (solved Odd) inside v

    apart : (u : Bool) (q : Player) → (u && same_player q Even) ≡ true → (u && same_player q Odd) ≡ false
    apart true Even i = refl
    apart true Odd i = absurd (cc i)
    apart false q i = refl

    all : (u : Bool) (q : Player) → ((u && same_player q Even) || (u && same_player q Odd)) ≡ u
    all true Even = refl
    all true Odd = refl
    all false q = refl
