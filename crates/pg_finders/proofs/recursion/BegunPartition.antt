-- A subgame that its player begins again among the active vertices: its tops are given to him, and what he attracts to them is listed.
use Rattle.pg_finders.proofs.Common.{◌≡◌, ℕ, ◌<◌, All, Bool, false, inl, inr, List, [], ◌++◌, length, take, refl, sym, ◌∙◌, ap}
use Rattle.pg_finders.proofs.Common.{subst, arith, fun_ext}
use Rattle.pg_finders.proofs.Common.{length-append, false_from_ne_true, other_from_not, opponent, Graph, HasEdge, owner_of}
use Rattle.pg_finders.proofs.Common.{VertexSet, In, Within, members, union}
use Rattle.pg_finders.proofs.Common.{without, member_below, listed, Once, place, choices_of, active_of, settled_of, HasTaken, Player, ◌||◌}
use Rattle.pg_finders.proofs.Common.{AttractsNoFurther, IsAttracted}
use Rattle.std.proofs.Common.{lt-ltb}
use Rattle.pg_game.specs.VertexSet.{all_vertices}
use Rattle.pg_finders.specs.declared.recursion.partition.Partition.{Partition}
use Rattle.pg_finders.specs.declared.recursion.settled.Tail.{Tail}
use Rattle.pg_finders.specs.private.recursion.Partition.{free_of, IsPartition, FitsPartition, KeepsFree, GivesActive, BeginsAgain}
use Rattle.pg_finders.specs.private.recursion.Settled.{since}
use Rattle.std.specs.List.{filter}
use Rattle.pg_finders.proofs.Sets.{no_both, only}
use Rattle.pg_finders.proofs.recursion.ListsAsSets.{all_below}
use Rattle.pg_finders.proofs.recursion.AttractionSteps.{grown_none, grown_cases, grown_attracted, grown_union, prefix_taken}
use Rattle.pg_finders.proofs.recursion.FreeVertices.{free_is}
use Rattle.pg_finders.proofs.recursion.AttractedVertices.{rest_none, settled_same, fit_below}
use Rattle.std.proofs.Math.Bool.{or-false}
use Rattle.std.proofs.lemmas.List.{drop_all}
use Rattle.pg_finders.proofs.recursion.BegunSubgame.{rest_union, rest_apart, rest_active}
use Rattle.pg_finders.proofs.recursion.FilteredLists.{filter_keeps, filter_once, filter_passed}

-- those that are given and listed are active
pub tops_within : (g : Graph) (t : Tail) (vertices : List ℕ) (x y : Partition) (empty list given : List ℕ)
    → GivesActive g t vertices x y empty list → empty ≡ [] → given ≡ list → All (λ v. v < length y.subgame.active) given
tops_within g t vertices x y empty list given h none same = all_below (length y.subgame.active) given (λ v i.
    (let j = subst (λ xs. In (listed xs) v) (same ∙ (h.list_is ∙ ap (λ xs. xs ++ filter (λ u. active_of x.subgame u) vertices) none)) i in
    let a = (filter_passed (λ u. active_of x.subgame u) vertices v j).1 in
    member_below y.subgame.active v (subst (λ m. In (members m) v) (sym h.active) a)))

-- the active ones of the vertices are given to the player and listed, and are active no more, which leaves the mask
pub record GivesTops (g : Graph) (t : Tail) (vertices : List ℕ) (x y : Partition) (mask : List Bool) (empty list given : List ℕ) : Type 0 where
  pub partition : IsPartition (length g) x
  pub once : Once vertices
  pub others : (v : ℕ) → In (active_of x.subgame) v → listed vertices v ≡ false → owner_of g v ≡ opponent t.player
      → (w : ℕ) × HasEdge g v w × In (active_of x.subgame) w
  pub gives : GivesActive g t vertices x y empty list
  pub none : empty ≡ []
  pub same_list : given ≡ list
  pub same_length : length mask ≡ length y.subgame.active
  pub left : (v : ℕ) → members mask v ≡ without (active_of y.subgame) (listed given) v

module _ {g : Graph} {t : Tail} {vertices : List ℕ} {x y : Partition} {mask : List Bool} {empty list given : List ℕ}
    (h : GivesTops g t vertices x y mask empty list given) where
  abbrev A : VertexSet
  A = active_of x.subgame

  abbrev M : VertexSet
  M = members mask

  list_is : list ≡ filter (λ u. A u) vertices
  list_is = h.gives.list_is ∙ ap (λ xs. xs ++ filter (λ u. A u) vertices) h.none

  top_listed : (v : ℕ) → In A v → In (listed vertices) v → In (listed list) v
  top_listed v a i = subst (λ xs. In (listed xs) v) (sym list_is) (filter_keeps (λ u. A u) vertices v i a)

  listed_top : (v : ℕ) → In (listed list) v → In (listed vertices) v × In A v
  listed_top v i = filter_passed (λ u. A u) vertices v (subst (λ xs. In (listed xs) v) list_is i)

  pub both : (v : ℕ) → union M (listed list) v ≡ A v
  both = rest_union x.subgame.active y.subgame.active mask list given h.gives.active h.same_list h.left (λ v i. (listed_top v i).1)

  tops_apart : (v : ℕ) → In (listed list) v → M v ≡ false
  tops_apart = rest_apart x.subgame.active y.subgame.active mask list given h.gives.active h.same_list h.left

  mask_misses : (v : ℕ) → A v ≡ false → M v ≡ false
  mask_misses v n = false_from_ne_true (M v) (λ m. no_both (only (A v) (listed given v)
      (sym (ap (λ b. without (members b) (listed given) v) h.gives.active) ∙ (sym (h.left v) ∙ m))).0 n)

  -- then no settled vertex is free, and he attracts to them what he can
  module _ (end : Tail) (his : end.player ≡ t.player) (from : end.from ≡ length (settled_of y.settled t.player)) where
    abbrev bare : Partition
    bare = record y { subgame = record y.subgame { active = mask }; free = end }

    bare_partition : IsPartition (length g) bare
    bare_partition = record {
      sizes = record { active = h.same_length ∙ h.gives.partition.sizes.active; cursors = h.gives.partition.sizes.cursors; plan = h.gives.partition.sizes.plan };
      placed = h.gives.partition.placed;
      apart = λ p v i. mask_misses v (subst (λ m. members m v ≡ false) h.gives.active (h.gives.partition.apart p v i));
    }

    none_settled : since end y.settled ≡ []
    none_settled = rw (his, from) (drop_all (length (settled_of y.settled t.player)) (settled_of y.settled t.player) (omega arith))

    free_are : free_of end bare ≡ M
    free_are = fun_ext (λ v. free_is end bare_partition v ∙ (ap (λ xs. M v || listed xs v) none_settled ∙ or-false (M v)))

    pub tops_ready : FitsPartition (length g) end bare list
    tops_ready = record {
      partition = bare_partition;
      once = subst Once (sym list_is) (filter_once (λ u. A u) vertices h.once);
      apart = λ v i. ap (λ F. F v) free_are ∙ tops_apart v i;
      below = all_below (length g) list (λ v i. (let l = member_below x.subgame.active v (listed_top v i).1 in omega (arith, l, h.partition.sizes.active)));
      unsettled = λ p v i. false_from_ne_true (listed list v) (λ j.
          no_both (listed_top v j).1 (subst (λ m. members m v ≡ false) h.gives.active (h.gives.partition.apart p v i)));
    }

    pub tops_below : Within (union (free_of end bare) (listed list)) (all_vertices g)
    tops_below v i = lt-ltb v (length g) (fit_below tops_ready v i)

    pub tops_open : AttractsNoFurther g t.player (union (free_of end bare) (listed list)) (listed []) (listed list)
    tops_open = subst (λ F. AttractsNoFurther g t.player (union F (listed list)) (listed []) (listed list)) (sym free_are) record {
      own = λ v w i n o e. refl;
      other = λ v i n o. (
          let a = sym (both v) ∙ i in
          let q = h.others v a (false_from_ne_true (listed vertices v) (λ j. no_both (top_listed v a j) n))
          (other_from_not t.player (owner_of g v) o) in
          (q.0, q.1, both q.0 ∙ q.2, refl));
    }

    module _ {z : Partition} {all : List ℕ} (keeps : KeepsFree g t.player bare list z all) (fit : FitsPartition (length g) z.free z all)
        (finished : AttractsNoFurther g t.player (union (free_of end bare) (listed list)) (listed all) (listed all)) where
      abbrev fits : FitsPartition (length g) end z all
      fits = subst (λ u. FitsPartition (length g) u z all) keeps.0 fit

      free_now : free_of end z ≡ active_of z.subgame
      free_now = fun_ext (λ v. free_is end fits.partition v ∙ (ap (λ xs. active_of z.subgame v || listed xs v) (rest_none keeps.1 none_settled)
          ∙ or-false (active_of z.subgame v)))

      grown : HasTaken g t.player M y.subgame.plan list (active_of z.subgame) z.subgame.plan all
      grown = subst (λ F. HasTaken g t.player F y.subgame.plan list (active_of z.subgame) z.subgame.plan all) free_are
          (subst (λ F. HasTaken g t.player (free_of end bare) y.subgame.plan list F z.subgame.plan all) free_now
          (keeps.2 [] (λ v i. absurd (cc i)) (free_of end bare) y.subgame.plan list grown_none))

      all_apart : (v : ℕ) → In (listed all) v → active_of z.subgame v ≡ false
      all_apart v i = sym (ap (λ F. F v) free_now) ∙ fits.apart v i

      done : AttractsNoFurther g t.player (union M (listed list)) (listed all) (listed all)
      done = subst (λ F. AttractsNoFurther g t.player (union F (listed list)) (listed all) (listed all)) free_are finished

      active_is : (v : ℕ) → active_of z.subgame v ≡ without A (listed all) v
      active_is v = rest_active (active_of z.subgame v) (listed all v) (A v) (grown_union grown v ∙ both v) (all_apart v)

      settled_are : (p : Player) → settled_of z.settled p ≡ settled_of x.settled p
      settled_are p = settled_each ∙ ap (λ s. settled_of s p) h.gives.settled
        where
          settled_each : settled_of z.settled p ≡ settled_of y.settled p
          settled_each = settled_same p (inr none_settled) keeps.1

      pub again_partition : IsPartition (length g) z
      again_partition = fits.partition

      top_of : (v : ℕ) → In (listed (take (length list) all)) v → In (listed list) v
      top_of v i = subst (λ xs. In (listed xs) v) (prefix_taken grown) i

      pub begins_again : BeginsAgain g t vertices x z all (length list)
      begins_again = record {
        few = omega (arith, ap length grown.list_is, length-append list grown.more);
        tops = prefix_taken grown ∙ list_is;
        once = fits.once;
        attracted = subst (λ xs. IsAttracted g t.player A (listed xs) (listed all) (choices_of z.subgame.plan) (place all)) (sym (prefix_taken grown))
            (subst (λ Z. IsAttracted g t.player Z (listed list) (listed all) (choices_of z.subgame.plan) (place all)) (fun_ext both)
            (grown_attracted grown done));
        chosen = λ v i o. (
            let j = top_of v i in
            let top = listed_top v j in
            let q = (h.gives.given v top.0 top.1).1 in
            (q.0, (grown.same v (tops_apart v j)).1 ∙ q.1, q.2, q.3));
        his = λ v i. elim (grown_cases grown v i) [
          | inl j ↦ (let top = listed_top v j in (grown.same v (tops_apart v j)).0 ∙ (h.gives.given v top.0 top.1).0)
          | inr j ↦ grown.his v j
        ];
        active = active_is;
        same = λ v n. (let a = h.gives.same v n in let b = grown.same v (mask_misses v n) in (b.0 ∙ a.0, b.1 ∙ a.1));
        settled = settled_are;
      }
