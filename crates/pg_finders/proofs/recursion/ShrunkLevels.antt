-- What is owed where the recursion goes back: the opponent takes what he attracts, what the
-- greatest vertices that are left attract is set aside again, and of what its player had won he keeps that on which nothing has changed.
use Rattle.pg_finders.proofs.Common.{◌≡◌, ℕ, false, true, ◌⊎◌, inl, inr, List, [], ◌∷◌, ◌++◌, take, drop, ◌==◌, refl, sym, ◌∙◌, ap}
use Rattle.pg_finders.proofs.Common.{subst, fun_ext, cases_Bool, or_cases, or_left, or_right, or_parts, eqb-true, false_from_ne_true, Bool, opponent, Graph}
use Rattle.pg_finders.proofs.Common.{HasEdge, owner_of, VertexSet, In, Within, union, without, other_from_not, own_or_other, Plan, Frame, Level, listed, SettledLists}
use Rattle.pg_finders.proofs.Common.{winners_of, choices_of, SameAt, SameOutside, IsBegun, WinsOn, IsAttracted, place, HasTaken, AttractsNoFurther}
use Rattle.pg_finders.proofs.Common.{count_at, level_at, AreOpenLevels, both_ways}
use Rattle.std.specs.List.{filter}
use Rattle.std.proofs.lemmas.List.{append_cancel_left}
use Rattle.pg_finders.proofs.Sets.{not_both, twice, no_both, only, minus}
use Rattle.pg_finders.proofs.SolvedSubgames.{Holds-subst, left_is_subgame, IsAttracted-same}
use Rattle.pg_finders.proofs.recursion.ListsAsSets.{listed-append, in_prefix, in_rest, in_drop}
use Rattle.pg_finders.proofs.recursion.FilteredLists.{filter_keeps, filter_fewer}
use Rattle.pg_finders.proofs.recursion.AttractionSteps.{grown_attracted}
use Rattle.pg_finders.proofs.recursion.LoopSteps.{last_begun, since_left, aside_inside, inside_cases, left_cases, left_solved, won_since}

-- what is left of a list passes
pub filter_holds : (f : ℕ → Bool) (xs : List ℕ) (v : ℕ) → In (listed (filter f xs)) v → f v ≡ true
filter_holds f [] v i = absurd (cc i)
filter_holds f (x ∷ xs) v i = elim (cases_Bool (f x)) [
  | inl y ↦ (let j : In (listed (x ∷ filter f xs)) v = rw y at i in elim (or_cases (x == v) (listed (filter f xs) v) j) [
    | inl q ↦ subst (λ u. f u ≡ true) (eqb-true x v q) y
    | inr k ↦ filter_holds f xs v k
  ])
  | inr n ↦ (let j : In (listed (filter f xs)) v = rw n at i in filter_holds f xs v j)
]

-- a subgame at its end: what is set aside, and what its player and the opponent have won in the rest, share it out
pub record IsShared (g : Graph) (level : Level) (aside lost won : List ℕ) (old : Plan) : Type 0 where
  pub begun : IsBegun g level.inside level.tops level.left level.player (winners_of old) (choices_of old)
  pub parts : (v : ℕ) → In level.inside v → In (listed aside) v ⊎ (In (listed won) v ⊎ In (listed lost) v)
  pub aside_out : (v : ℕ) → In (listed aside) v → In level.inside v × (level.left v ≡ false)
  pub won_left : Within (listed won) level.left
  pub lost_left : Within (listed lost) level.left
  pub apart : (v : ℕ) → In (listed won) v → In (listed lost) v → ⊥
  pub holds : WinsOn g level.left level.player (listed won) (choices_of old)

-- the last subgame that waits is so where nothing is active
pub end_shared : {g : Graph} {U active : VertexSet} {settled : SettledLists} {set_aside : List ℕ} (frames : List Frame) (f : Frame) {old : Plan}
    → AreOpenLevels g U active settled set_aside (frames ++ f ∷ []) (winners_of old) (choices_of old) → ((v : ℕ) → active v ≡ false)
    → IsShared g (level_at U settled set_aside f) (drop f.set_aside_from set_aside) (drop (count_at f (opponent f.player)) (settled (opponent f.player)))
    (drop (count_at f f.player) (settled f.player)) old
end_shared {g} {U} {active} {settled} {set_aside} frames f {old} h none = record {
  begun = last_begun frames f h;
  parts = λ v i. elim (inside_cases frames f h none v i) [
    | inl (r, y) ↦ elim (own_or_other r f.player) [
      | inl e ↦ inr (inl (subst (λ q. In (listed (drop (count_at f q) (settled q))) v) e y))
      | inr e ↦ inr (inr (subst (λ q. In (listed (drop (count_at f q) (settled q))) v) e y))
    ]
    | inr y ↦ inl y
  ];
  aside_out = λ v i. (
    aside_inside frames f h v i,
    false_from_ne_true ((level_at U settled set_aside f).left v) (λ y. (let k = left_cases frames f h none v y in
        no_both (in_drop f.set_aside_from set_aside v i) (h.apart.aside_apart k.0 v (in_drop (count_at f k.0) (settled k.0) v k.1)))),
  );
  won_left = since_left frames f h f.player;
  lost_left = since_left frames f h (opponent f.player);
  apart = λ v i j. not_both (winners_of old v) f.player (h.his f.player v (in_drop (count_at f f.player) (settled f.player) v i))
      (h.his (opponent f.player) v (in_drop (count_at f (opponent f.player)) (settled (opponent f.player)) v j));
  holds = Holds-subst (won_since frames f h none f.player) (left_solved frames f h none f.player);
}

-- What was set aside and what the player had won is free.
module _ {g : Graph} {level : Level} {aside lost won : List ℕ} {old : Plan} (s : IsShared g level aside lost won old) where
  abbrev I : VertexSet
  I = level.inside

  abbrev L : VertexSet
  L = level.left

  pub aside_is : (v : ℕ) → listed aside v ≡ without I L v
  aside_is v = both_ways (listed aside v) (without I L v) (λ y. minus (s.aside_out v y).0 (s.aside_out v y).1) (λ y.
      (let b = only (I v) (L v) y in elim (s.parts v b.0) [
        | inl a ↦ a
        | inr (inl w) ↦ absurd (no_both (s.won_left v w) b.1)
        | inr (inr w) ↦ absurd (no_both (s.lost_left v w) b.1)
      ]))

  module _ {F : VertexSet} (free : (v : ℕ) → F v ≡ union (listed aside) (listed won) v) where
    free_cases : (v : ℕ) → In F v → In (listed aside) v ⊎ In (listed won) v
    free_cases v i = or_cases (listed aside v) (listed won v) (sym (free v) ∙ i)

    free_aside : (v : ℕ) → In (listed aside) v → In F v
    free_aside v i = free v ∙ or_left (listed aside v) (listed won v) i

    free_won : (v : ℕ) → In (listed won) v → In F v
    free_won v i = free v ∙ or_right (listed aside v) (listed won v) i

    free_inside : (v : ℕ) → In F v → In I v
    free_inside v i = elim (free_cases v i) [ inl a ↦ (s.aside_out v a).0 | inr w ↦ s.begun.within v (s.won_left v w) ]

    pub lost_apart : (v : ℕ) → In (listed lost) v → F v ≡ false
    lost_apart v i = false_from_ne_true (F v) (λ y. elim (free_cases v y) [
      | inl a ↦ no_both (s.lost_left v i) (s.aside_out v a).1
      | inr w ↦ s.apart v w i
    ])

    free_out : (v : ℕ) → In F v → listed lost v ≡ false
    free_out v i = false_from_ne_true (listed lost v) (λ y. no_both i (lost_apart v y))

    whole : (v : ℕ) → union F (listed lost) v ≡ I v
    whole v = both_ways (union F (listed lost) v) (I v) (λ y. elim (or_cases (F v) (listed lost v) y) [
      | inl f ↦ free_inside v f
      | inr w ↦ s.begun.within v (s.lost_left v w)
    ]) (λ y. elim (s.parts v y) [
      | inl a ↦ or_left (F v) (listed lost v) (free_aside v a)
      | inr (inl w) ↦ or_left (F v) (listed lost v) (free_won v w)
      | inr (inr w) ↦ or_right (F v) (listed lost v) w
    ])

    mine : (v : ℕ) → In (union F (listed lost)) v → listed (lost ++ aside) v ≡ false → In (listed won) v
    mine v u n = (let b = or_parts (listed lost v) (listed aside v) (sym (listed-append lost aside v) ∙ n) in
        elim (or_cases (F v) (listed lost v) u) [
          | inl f ↦ elim (free_cases v f) [ inl a ↦ absurd (no_both a b.1) | inr w ↦ w ]
          | inr l ↦ absurd (no_both l b.0)
        ])

    -- nothing that the player won leads to what the opponent won
    pub at_most : AttractsNoFurther g (opponent level.player) (union F (listed lost)) (listed lost) (listed (lost ++ aside))
    at_most = record {
      own = λ v w u n o e. false_from_ne_true (listed lost w) (λ y. s.apart w (s.holds.closed v w (mine v u n) o e (s.lost_left w y)) y);
      other = λ v u n o. (let c = s.holds.choices v (mine v u n) (other_from_not (opponent level.player) (owner_of g v) o ∙ twice level.player) in
          (c.0, c.2, or_left (F c.0) (listed lost c.0) (free_won c.0 c.3), false_from_ne_true (listed lost c.0) (λ y. s.apart c.0 c.3 y)));
    }

    -- The opponent has taken what he attracts.
    module _ {mid : Plan} (taken : List ℕ) (grown : HasTaken g (opponent level.player) F old lost (without F (listed taken)) mid (lost ++ taken))
        (done : AttractsNoFurther g (opponent level.player) (union F (listed lost)) (listed (lost ++ taken)) (listed (lost ++ taken))) where
      abbrev B : VertexSet
      B = listed (lost ++ taken)

      pub more_is : grown.more ≡ taken
      more_is = append_cancel_left lost grown.more taken (sym grown.list_is)

      pub in_more : (v : ℕ) → In (listed taken) v → In (listed grown.more) v
      in_more v i = subst (λ xs. In (listed xs) v) (sym more_is) i

      lost_attracted : IsAttracted g (opponent level.player) I (listed lost) B (choices_of mid) (place (lost ++ taken))
      lost_attracted = subst (λ Z. IsAttracted g (opponent level.player) Z (listed lost) B (choices_of mid) (place (lost ++ taken))) (fun_ext whole)
          (grown_attracted grown done)

      out_parts : (v : ℕ) → B v ≡ false → (listed lost v ≡ false) × (listed taken v ≡ false)
      out_parts v n = or_parts (listed lost v) (listed taken v) (sym (listed-append lost taken v) ∙ n)

      out_from : (v : ℕ) → listed lost v ≡ false → listed taken v ≡ false → B v ≡ false
      out_from v a b = listed-append lost taken v ∙ rw (a, b) refl

      pub rest_active : (v : ℕ) → without (listed aside) (listed taken) v ≡ without (without I L) B v
      rest_active v = both_ways (without (listed aside) (listed taken) v) (without (without I L) B v) (λ y.
          (let b = only (listed aside v) (listed taken v) y in
          minus (sym (aside_is v) ∙ b.0) (out_from v (free_out v (free_aside v b.0)) b.1)))
          (λ y. (let b = only (without I L v) (B v) y in minus (aside_is v ∙ b.0) (out_parts v b.1).1))

      pub won_out : (v : ℕ) → In (without (listed won) (listed taken)) v → In (without I B) v
      won_out v i = (let b = only (listed won v) (listed taken v) i in
          minus (s.begun.within v (s.won_left v b.0)) (out_from v (free_out v (free_won v b.0)) b.1))

      pub rest_free : (v : ℕ) → union (without (listed aside) (listed taken)) (without (listed won) (listed taken)) v ≡ without I B v
      rest_free v = both_ways (union (without (listed aside) (listed taken)) (without (listed won) (listed taken)) v) (without I B v)
          (λ y. elim (or_cases (without (listed aside) (listed taken) v) (without (listed won) (listed taken) v) y) [
            | inl x ↦ (let b = only (without I L v) (B v) (sym (rest_active v) ∙ x) in minus (only (I v) (L v) b.0).0 b.1)
            | inr x ↦ won_out v x
          ])
          (λ y. (let b = only (I v) (B v) y in let n = (out_parts v b.1).1 in elim (s.parts v b.0) [
            | inl a ↦ or_left (without (listed aside) (listed taken) v) (without (listed won) (listed taken) v) (minus a n)
            | inr (inl w) ↦ or_right (without (listed aside) (listed taken) v) (without (listed won) (listed taken) v) (minus w n)
            | inr (inr w) ↦ absurd (no_both (in_prefix lost taken v w) b.1)
          ]))

      successor : (v : ℕ) → In (without I B) v → (w : ℕ) × HasEdge g v w × In (without I B) w
      successor v i = (left_is_subgame s.begun.subgame lost_attracted).successor v i

      module _ {Y : VertexSet} (active : (v : ℕ) → Y v ≡ without (without I L) B v) where
        active_parts : (v : ℕ) → In Y v → In (without I L) v × In (without I B) v
        active_parts v i = (let a = only (without I L v) (B v) (sym (active v) ∙ i) in (a.0, minus (only (I v) (L v) a.0).0 a.1))

        active_left : (v : ℕ) → In L v → Y v ≡ false
        active_left v l = false_from_ne_true (Y v) (λ y. no_both l (only (I v) (L v) (active_parts v y).0).1)

        active_taken : (v : ℕ) → In B v → Y v ≡ false
        active_taken v b = false_from_ne_true (Y v) (λ y. no_both b (only (I v) (B v) (active_parts v y).1).1)

        -- what is active leads to what is free, and also to what is active if the opponent's vertex is not one of the greatest
        pub again_tops : {G : VertexSet} → ((v : ℕ) → G v ≡ without I B v) → (v : ℕ) → In Y v → (w : ℕ) × HasEdge g v w × In G w
        again_tops free' v i = (let c = successor v (active_parts v i).1 in (c.0, c.1, free' c.0 ∙ c.2))

        pub again_others : (v : ℕ) → In Y v → level.tops v ≡ false → owner_of g v ≡ opponent level.player → (w : ℕ) × HasEdge g v w × In Y w
        again_others v i t o = (let a = active_parts v i in
            let c = successor v a.1 in
            let d = only (I c.0) (B c.0) c.2 in
            (c.0, c.1, active c.0 ∙ minus (s.begun.attracted.pushed v c.0 a.0 t o c.1 d.0).0 d.1))

        -- The player has attracted what is active to the greatest vertices that are left.
        module _ (new : Plan) (list greatest : List ℕ) (k : ℕ) (tops_are : (v : ℕ) → level.tops v ≡ listed greatest v)
            (first : take k list ≡ filter (λ v. Y v) greatest)
            (again : IsAttracted g level.player Y (listed (take k list)) (listed list) (choices_of new) (place list)) (same : SameOutside Y mid new) where
          pub tops_left : (v : ℕ) → listed (take k list) v ≡ without level.tops B v
          tops_left v = ap (λ xs. listed xs v) first ∙ both_ways (listed (filter (λ u. Y u) greatest) v) (without level.tops B v)
              (λ y. minus (tops_are v ∙ filter_fewer (λ u. Y u) greatest v y) (only (I v) (B v) (active_parts v (filter_holds (λ u. Y u) greatest v y)).1).1)
              (λ y. (let b = only (level.tops v) (B v) y in
              filter_keeps (λ u. Y u) greatest v (sym (tops_are v) ∙ b.0) (active v ∙ minus (s.begun.attracted.target v b.0) b.1)))

          pub attracted_left : IsAttracted g level.player (without (without I L) B) (without level.tops B) (listed list) (choices_of new) (place list)
          attracted_left = subst (λ Z. IsAttracted g level.player Z (without level.tops B) (listed list) (choices_of new) (place list)) (fun_ext active)
              (subst (λ Z. IsAttracted g level.player Y Z (listed list) (choices_of new) (place list)) (fun_ext tops_left) again)

          pub lost_now : IsAttracted g (opponent level.player) I (listed lost) B (choices_of new) (place (lost ++ taken))
          lost_now = IsAttracted-same (λ v i. (same v (active_taken v i)).1) lost_attracted

          pub taken_his : (v : ℕ) → In (listed taken) v → winners_of new v ≡ opponent level.player
          taken_his v i = (same v (active_taken v (in_rest lost taken v i))).0 ∙ grown.his v (in_more v i)

          pub same_outside : SameOutside I old new
          same_outside v n = (
              let a = grown.same v (false_from_ne_true (F v) (λ y. no_both (free_inside v y) n)) in
              let b = same v (false_from_ne_true (Y v) (λ y. no_both (only (I v) (B v) (active_parts v y).1).0 n)) in
              (b.0 ∙ a.0, b.1 ∙ a.1))

          pub same_lost : (v : ℕ) → In (listed lost) v → SameAt old new v
          same_lost v i = (
              let a = grown.same v (lost_apart v i) in
              let b = same v (active_taken v (in_prefix lost taken v i)) in
              (b.0 ∙ a.0, b.1 ∙ a.1))

          pub same_won : (v : ℕ) → In (without (listed won) (listed taken)) v → SameAt old new v
          same_won v i = (
              let c = only (listed won v) (listed taken v) i in
              let a = grown.elsewhere v (subst (λ xs. listed xs v ≡ false) (sym more_is) c.1) in
              let b = same v (active_left v (s.won_left v c.0)) in
              (b.0 ∙ a.0, b.1 ∙ a.1))

          -- Of what the player had won and keeps, some becomes active.
          pub active_end : {Z : VertexSet} (more kept : List ℕ) → ((v : ℕ) → Z v ≡ union (without Y (listed list)) (listed more) v)
              → Within (listed more) (without (listed won) (listed taken))
              → ((v : ℕ) → listed kept v ≡ without (without (listed won) (listed taken)) (listed more) v)
              → (v : ℕ) → Z v ≡ without (without (without I B) (listed list)) (listed kept) v
          active_end {Z} more kept now were kept_is v = now v
              ∙ both_ways (union (without Y (listed list)) (listed more) v) (without (without (without I B) (listed list)) (listed kept) v) there back
            where
              won_in : In (without (listed won) (listed taken)) v → In L v
              won_in i = s.won_left v (only (listed won v) (listed taken v) i).0

              kept_parts : In (listed kept) v → In (without (listed won) (listed taken)) v × (listed more v ≡ false)
              kept_parts i = only (without (listed won) (listed taken) v) (listed more v) (sym (kept_is v) ∙ i)

              there : In (union (without Y (listed list)) (listed more)) v → In (without (without (without I B) (listed list)) (listed kept)) v
              there y = elim (or_cases (without Y (listed list) v) (listed more v) y) [
                | inl x ↦ (let b = only (Y v) (listed list v) x in let a = active_parts v b.0 in
                    minus (minus a.1 b.1) (false_from_ne_true (listed kept v) (λ i. no_both (won_in (kept_parts i).0) (only (I v) (L v) a.0).1)))
                | inr m ↦ minus (minus (won_out v (were v m))
                    (false_from_ne_true (listed list v) (λ i. no_both (again.inside v i) (active_left v (won_in (were v m))))))
                    (false_from_ne_true (listed kept v) (λ i. no_both m (kept_parts i).1))
              ]

              back : In (without (without (without I B) (listed list)) (listed kept)) v → In (union (without Y (listed list)) (listed more)) v
              back y = (
                  let a = only (without (without I B) (listed list) v) (listed kept v) y in
                  let b = only (without I B v) (listed list v) a.0 in
                  let c = only (I v) (B v) b.0 in
                  elim (s.parts v c.0) [
                    | inl x ↦ or_left (without Y (listed list) v) (listed more v) (minus (active v ∙ minus (sym (aside_is v) ∙ x) c.1) b.1)
                    | inr (inl w) ↦ or_right (without Y (listed list) v) (listed more v) (elim (cases_Bool (listed more v)) [
                      | inl m ↦ m
                      | inr n ↦ absurd (no_both (kept_is v ∙ minus (minus w (out_parts v c.1).1) n) a.1)
                    ])
                    | inr (inr w) ↦ absurd (no_both (in_prefix lost taken v w) c.1)
                  ])
