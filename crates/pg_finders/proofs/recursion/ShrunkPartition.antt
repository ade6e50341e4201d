-- The partition where the recursion goes back: what each step owes, and what they come to.
use Rattle.pg_finders.proofs.Common.{◌≡◌, ℕ, false, ◌&&◌, ◌||◌, not, ◌⊎◌, inl, inr, List, ◌++◌, length, take, drop, Some, ◌<◌, sym, ◌∙◌, ap, subst, or_cases, or_left}
use Rattle.pg_finders.proofs.Common.{or_right, false_from_ne_true, Player, opponent, Graph, HasEdge, owner_of, VertexSet, In, union, without, Plan, Level, listed, Once}
use Rattle.pg_finders.proofs.Common.{settled_of, choices_of, IsAttracted, active_of, place, HasTaken, AttractsNoFurther, AreVertices}
use Rattle.std.specs.List.{filter}
use Rattle.std.proofs.Math.Seq.{drop-append_seam}
use Rattle.pg_finders.specs.declared.recursion.partition.Partition.{Partition}
use Rattle.pg_finders.specs.declared.recursion.settled.Tail.{Tail}
use Rattle.pg_finders.specs.private.recursion.Settled.{since}
use Rattle.pg_finders.specs.private.recursion.Partition.{free_of, IsPartition, AttractsFree, LosesFree, BeginsAgain, HasOpened, RestsOn}
use Rattle.pg_finders.specs.private.recursion.GoingBack.{IsReopened, IsShrunk}
use Rattle.pg_finders.proofs.Sets.{no_both, only, minus}
use Rattle.pg_finders.proofs.recursion.ListsAsSets.{in_prefix, in_rest, prefix_or_rest, in_drop, once_join, apart_from, all_below}
use Rattle.pg_finders.proofs.recursion.FilteredLists.{filter_keeps, filter_fewer, filter_once}
use Rattle.pg_finders.proofs.recursion.RepeatedAttraction.{all_listed}
use Rattle.pg_finders.proofs.recursion.FreeVertices.{free_is}
use Rattle.pg_finders.proofs.recursion.ShrunkLevels.{IsShared, lost_apart, at_most, more_is, in_more, rest_active, rest_free, won_out, again_tops, again_others}
use Rattle.pg_finders.proofs.recursion.ShrunkLevels.{tops_left, attracted_left, lost_now, taken_his, same_outside, same_lost, same_won, active_end, filter_holds}

module _ {g : Graph} {level : Level} {aside lost won : List ℕ} {t u : Tail} {old : Plan} {x1 : Partition} (s : IsShared g level aside lost won old)
    (r : IsReopened (length g) level aside lost won t u old x1) where
  abbrev o : Player
  o = opponent level.player

  abbrev F : VertexSet
  F = free_of t x1

  free1 : (v : ℕ) → F v ≡ union (listed aside) (listed won) v
  free1 v = free_is t r.partition v ∙ (ap (λ b. b || listed (since t x1.settled) v) (r.active v) ∙ ap (λ xs. listed aside v || listed xs v) r.has_won)

  pub attract_apart : (v : ℕ) → In (listed (since u x1.settled)) v → F v ≡ false
  attract_apart v i = lost_apart s {F = F} free1 v (subst (λ xs. In (listed xs) v) r.has_lost i)

  pub attract_at_most : AttractsNoFurther g o (union F (listed (since u x1.settled))) (listed (since u x1.settled)) (listed (since u x1.settled ++ aside))
  attract_at_most = subst (λ xs. AttractsNoFurther g o (union F (listed xs)) (listed xs) (listed (xs ++ aside))) (sym r.has_lost) (at_most s {F = F} free1)

  module _ {x2 : Partition} {taken : List ℕ} (a : AttractsFree g t u x1 x2 taken) (partition : IsPartition (length g) x2) where
    abbrev B : VertexSet
    B = listed (lost ++ taken)

    abbrev Y : VertexSet
    Y = active_of x2.subgame

    grown : HasTaken g o F old lost (without F (listed taken)) x2.subgame.plan (lost ++ taken)
    grown = subst (λ plan. HasTaken g o F plan lost (without F (listed taken)) x2.subgame.plan (lost ++ taken)) r.plan
        (subst (λ xs. HasTaken g o F x1.subgame.plan xs (without F (listed taken)) x2.subgame.plan (xs ++ taken)) r.has_lost
        (subst (λ q. HasTaken g q F x1.subgame.plan (since u x1.settled) (without F (listed taken)) x2.subgame.plan (since u x1.settled ++ taken)) r.other a.grown))

    done : AttractsNoFurther g o (union F (listed lost)) (listed (lost ++ taken)) (listed (lost ++ taken))
    done = subst (λ xs. AttractsNoFurther g o (union F (listed xs)) (listed (xs ++ taken)) (listed (xs ++ taken))) r.has_lost (rw (sym r.other) a.done)

    loses : LosesFree t x1 x2 taken
    loses = a.opponents (r.other ∙ ap opponent (sym r.player))

    active_was : (v : ℕ) → Y v ≡ without (listed aside) (listed taken) v
    active_was v = a.active v ∙ ap (λ b. b && not (listed taken v)) (r.active v)

    active2 : (v : ℕ) → Y v ≡ without (without level.inside level.left) B v
    active2 v = active_was v ∙ rest_active s {F = F} free1 taken grown done v

    rest2 : (v : ℕ) → listed (since t x2.settled) v ≡ without (listed won) (listed taken) v
    rest2 v = loses.rest v ∙ ap (λ xs. listed xs v && not (listed taken v)) r.has_won

    free2 : (v : ℕ) → free_of t x2 v ≡ without level.inside B v
    free2 v = free_is t partition v ∙ (ap (λ b. b || listed (since t x2.settled) v) (active_was v) ∙ (ap (λ b. without (listed aside) (listed taken) v || b) (rest2 v)
        ∙ rest_free s {F = F} free1 taken grown done v))

    pub begin_tops : (v : ℕ) → In Y v → (w : ℕ) × HasEdge g v w × In (free_of t x2) w
    begin_tops v i = again_tops s {F = F} free1 taken grown done {Y = Y} active2 {G = free_of t x2} free2 v i

    pub begin_others : (v : ℕ) → In Y v → level.tops v ≡ false → owner_of g v ≡ opponent t.player → (w : ℕ) × HasEdge g v w × In Y w
    begin_others v i t e = again_others s {F = F} free1 taken grown done {Y = Y} active2 v i t (e ∙ ap opponent r.player)

    module _ {x3 : Partition} {list greatest : List ℕ} {k : ℕ} (b : BeginsAgain g t greatest x2 x3 list k) (tops_are : (v : ℕ) → level.tops v ≡ listed greatest v)
      where
        attracted3 : IsAttracted g level.player Y (listed (take k list)) (listed list) (choices_of x3.subgame.plan) (place list)
        attracted3 = subst (λ q. IsAttracted g q Y (listed (take k list)) (listed list) (choices_of x3.subgame.plan) (place list)) r.player b.attracted

        rest3 : (v : ℕ) → listed (since t x3.settled) v ≡ without (listed won) (listed taken) v
        rest3 v = ap (λ xs. listed (drop t.from xs) v) (b.settled t.player) ∙ rest2 v

        lost_is : settled_of x3.settled o ≡ settled_of x1.settled o ++ taken
        lost_is = b.settled o ∙ subst (λ q. settled_of x2.settled q ≡ settled_of x1.settled q ++ taken) r.other a.settled

        aside_active : (v : ℕ) → In (active_of x3.subgame) v → In (listed aside) v
        aside_active v i = (only (listed aside v) (listed taken v) (sym (active_was v) ∙ (only (Y v) (listed list v) (sym (b.active v) ∙ i)).0)).0

        module _ {x4 : Partition} {end : Tail} {opened : List ℕ} (c : HasOpened t x3 (filter (λ v. active_of x3.subgame v) aside) x4 opened)
            (none : (v w : ℕ) → In (union (listed (since end x3.settled)) (listed opened)) w → RestsOn g t x4 v w → ⊥)
            (end_other : end.player ≡ opponent level.player) (to_is : end.from ≡ length (settled_of x1.settled (opponent level.player))) where
          abbrev first : List ℕ
          first = filter (λ v. active_of x3.subgame v) aside

          taken_is : since end x3.settled ≡ taken
          taken_is = ap (λ q. drop end.from (settled_of x3.settled q)) end_other ∙ (ap (drop end.from) lost_is
              ∙ (ap (λ n. drop n (settled_of x1.settled o ++ taken)) to_is ∙ drop-append_seam (settled_of x1.settled o) taken))

          kept_is : (v : ℕ) → listed (since t x4.settled) v ≡ without (without (listed won) (listed taken)) (listed c.more) v
          kept_is v = c.rest v ∙ ap (λ b. b && not (listed c.more v)) (rest3 v)

          kept_won : (v : ℕ) → In (listed (since t x4.settled)) v → In (without (listed won) (listed taken)) v
          kept_won v i = (only (without (listed won) (listed taken) v) (listed c.more v) (sym (kept_is v) ∙ i)).0

          pub opened_all : (v : ℕ) → In (active_of x4.subgame) v → In (listed opened) v
          opened_all v i = subst (λ xs. In (listed xs) v) (sym c.list_is) (elim (or_cases (active_of x3.subgame v) (listed c.more v) (sym (c.active v) ∙ i)) [
            | inl y ↦ in_prefix first c.more v (filter_keeps (λ u. active_of x3.subgame u) aside v (aside_active v y) y)
            | inr m ↦ in_rest first c.more v m
          ])

          rests : (v w : ℕ) → In (listed (since t x4.settled)) v → HasEdge g v w → (owner_of g v ≡ opponent level.player) ⊎ (choices_of x3.subgame.plan v ≡ Some w)
              → (active_of x4.subgame w ≡ false) × (listed taken w ≡ false)
          rests v w i e d =
              let q : RestsOn g t x4 v w = (
                i,
                e,
                elim d [
                  | inl p ↦ inl (p ∙ ap opponent (sym r.player))
                  | inr m ↦ inr (ap (λ plan. choices_of plan v) c.plan ∙ m)
                ],
              ) in
              let lists = listed (since end x3.settled) w in (
                false_from_ne_true (active_of x4.subgame w) (λ y. none v w (or_right lists (listed opened w) (opened_all w y)) q),
                false_from_ne_true (listed taken w) (λ y. none v w (or_left lists (listed opened w) (subst (λ xs. In (listed xs) w) (sym taken_is) y)) q),
              )

          pub shrunk : IsShrunk g level lost won old taken list k (since t x4.settled) (active_of x4.subgame) x4.subgame.plan
          shrunk = subst (λ plan. IsShrunk g level lost won old taken list k (since t x4.settled) (active_of x4.subgame) plan) (sym c.plan) (record {
            rank = place (lost ++ taken);
            attracted = lost_now s {F = F} free1 taken grown done {Y = Y} active2 x3.subgame.plan list greatest k tops_are b.tops attracted3 b.same;
            taken_once = subst Once (more_is s {F = F} free1 taken grown done) grown.once;
            taken_apart = apart_from lost taken (λ v i j.
                no_both (grown.were_active v (in_more s {F = F} free1 taken grown done v j)) (lost_apart s {F = F} free1 v i));
            taken_his = taken_his s {F = F} free1 taken grown done {Y = Y} active2 x3.subgame.plan list greatest k tops_are b.tops attracted3 b.same;
            again = attracted_left s {F = F} free1 taken grown done {Y = Y} active2 x3.subgame.plan list greatest k tops_are b.tops attracted3 b.same;
            few = b.few;
            tops = tops_left s {F = F} free1 taken grown done {Y = Y} active2 x3.subgame.plan list greatest k tops_are b.tops attracted3 b.same;
            chosen = λ v i p. (let h = b.chosen v i (p ∙ sym r.player) in (h.0, h.1, h.2, sym (free2 h.0) ∙ h.3));
            aside_once = b.once;
            aside_his = λ v i. b.his v i ∙ r.player;
            kept_was = λ v i. (let h = kept_won v i in
                minus (only (listed won v) (listed taken v) h).0 (only (level.inside v) (B v) (won_out s {F = F} free1 taken grown done v h)).1);
            rests = rests;
            active_is = active_end s {F = F} free1 taken grown done {Y = Y} active2 x3.subgame.plan list greatest k tops_are b.tops attracted3 b.same
                c.more (since t x4.settled)
                (λ v. c.active v ∙ ap (λ b. b || listed c.more v) (b.active v)) (λ v i. sym (rest3 v) ∙ c.were v i) kept_is;
            outside = same_outside s {F = F} free1 taken grown done {Y = Y} active2 x3.subgame.plan list greatest k tops_are b.tops attracted3 b.same;
            same_lost = same_lost s {F = F} free1 taken grown done {Y = Y} active2 x3.subgame.plan list greatest k tops_are b.tops attracted3 b.same;
            same_kept = λ v i. same_won s {F = F} free1 taken grown done {Y = Y} active2 x3.subgame.plan list greatest k tops_are b.tops attracted3 b.same
                v (kept_won v i);
          })

          pub lost_grows : settled_of x4.settled (opponent level.player) ≡ settled_of x1.settled (opponent level.player) ++ taken
          lost_grows = subst (λ q. settled_of x4.settled (opponent q) ≡ settled_of x3.settled (opponent q)) r.player c.other ∙ lost_is

          pub before_same : take t.from (settled_of x4.settled t.player) ≡ take t.from (settled_of x1.settled t.player)
          before_same = c.own ∙ (ap (λ xs. take t.from xs) (b.settled t.player) ∙ loses.before)

          pub opened_right : AreVertices g aside → IsPartition (length g) x3 → AreVertices g opened
          opened_right below fits = all_below (length g) opened (λ v i. elim (prefix_or_rest first c.more v (subst (λ xs. In (listed xs) v) c.list_is i)) [
            | inl y ↦ all_listed (λ u. u < length g) aside below v (filter_fewer (λ u. active_of x3.subgame u) aside v y)
            | inr m ↦ all_listed (λ u. u < length g) (settled_of x3.settled t.player) (fits.placed.below t.player) v
                (in_drop t.from (settled_of x3.settled t.player) v (c.were v m))
          ])

          pub opened_once : Once aside → IsPartition (length g) x3 → Once opened
          opened_once once fits = subst Once (sym c.list_is) (once_join first c.more (filter_once (λ u. active_of x3.subgame u) aside once) c.once
              (apart_from first c.more (λ v i m. no_both (filter_holds (λ u. active_of x3.subgame u) aside v i)
              (fits.apart t.player v (in_drop t.from (settled_of x3.settled t.player) v (c.were v m))))))
