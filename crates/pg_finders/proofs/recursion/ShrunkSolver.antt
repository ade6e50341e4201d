-- The solver's steps at the end of the subgame that waits last, up to the third part of going back.
use Rattle.pg_finders.proofs.Common.{◌≡◌, ℕ, ◌-◌, ◌+◌, ◌<◌, ◌≤◌, Bool, ◌||◌, List, [], ◌∷◌, ◌++◌, length, take, drop, All, refl, sym, ◌∙◌, ap, member_below}
use Rattle.pg_finders.proofs.Common.{subst, arith, false_from_ne_true, Player, opponent, Graph, VertexSet, In, members, union, Frame, Level, listed, Apart}
use Rattle.pg_finders.proofs.Common.{Once, SettledLists, settled_of, active_of, level_at, IsAtEnd}
use Rattle.std.specs.List.{filter}
use Rattle.std.proofs.lemmas.List.{take_rest, drop-take}
use Rattle.std.proofs.lemmas.List.Elements.{All-filter}
use Rattle.pg_finders.specs.declared.recursion.Solver.{Solver}
use Rattle.pg_finders.specs.declared.recursion.partition.Partition.{Partition}
use Rattle.pg_finders.specs.private.recursion.Settled.{since}
use Rattle.pg_finders.specs.private.recursion.Solver.{tail_at}
use Rattle.pg_finders.specs.declared.recursion.settled.Tail.{Tail}
use Rattle.pg_finders.specs.private.recursion.Partition.{IsPartition, BeginsAgain, HasOpened, RestsOn}
use Rattle.pg_finders.specs.private.recursion.GoingBack.{aside_of, greatest_of, IsReopened, Loses, Shrinks}
use Rattle.pg_finders.proofs.Sets.{no_both}
use Rattle.pg_finders.proofs.recursion.ListsAsSets.{in_take, in_drop, once_take, once_drop, apart_from, all_below}
use Rattle.pg_finders.proofs.recursion.SharedLists.{gone_aside, linked_pop}
use Rattle.pg_finders.proofs.recursion.LoopSteps.{end_levels}
use Rattle.pg_finders.proofs.recursion.ShrunkLevels.{IsShared, end_shared}
use Rattle.pg_finders.proofs.recursion.ShrunkPartition.{opened_all, shrunk, lost_grows, before_same, opened_right, opened_once}

-- the same partition, where this is active
abbrev pub with_active : Partition → List Bool → Partition
with_active y mask = record y { subgame = record y.subgame { active = mask } }

module _ {g : Graph} {mask : List Bool} {x : Solver} {f : Frame} (h : IsAtEnd g mask x f) where
  abbrev set_aside : List ℕ
  set_aside = x.set_aside.items

  abbrev settled : SettledLists
  settled = settled_of x.partition.settled

  abbrev aside : List ℕ
  aside = aside_of f set_aside

  places : (f.set_aside_from ≤ f.tops_upto) × (f.tops_upto ≤ f.set_aside_upto) × (f.set_aside_upto ≡ length set_aside)
  places = (let l = linked_pop (λ p. 0) (λ p. length (settled p)) 0 h.before (length set_aside) f (end_levels h).linked in (l.1.0, l.1.1, l.3))

  -- the slices of it that the frame takes
  pub fits : {xs : List ℕ} → xs ≡ set_aside → ((f.set_aside_from ≤ f.tops_upto) × (f.tops_upto ≤ length xs)) × ((f.set_aside_from ≤ f.set_aside_upto) × (f.set_aside_upto ≤ length xs))
  fits {xs} e =
      let l = ap length e in
      ((places.0, omega (arith, places.1, places.2, l)), (omega (arith, places.0, places.1), omega (arith, places.2, l)))

  pub aside_is : aside ≡ drop f.set_aside_from set_aside
  aside_is = ap (λ n. take (n - f.set_aside_from) (drop f.set_aside_from set_aside)) places.2 ∙ take_rest set_aside f.set_aside_from

  greatest_is : greatest_of f set_aside ≡ drop f.set_aside_from (take f.tops_upto set_aside)
  greatest_is =
      let e : f.set_aside_from + (f.tops_upto - f.set_aside_from) ≡ f.tops_upto = omega (arith, places.0) in
      sym (drop-take f.set_aside_from (f.tops_upto - f.set_aside_from) set_aside) ∙ ap (λ n. drop f.set_aside_from (take n set_aside)) e

  -- each part of what the frame has set aside
  pub below : (k : ℕ) {xs : List ℕ} {n : ℕ} → xs ≡ take k (drop f.set_aside_from set_aside) → n ≡ length g → All (λ v. v < n) xs
  below k {xs} {n} e d = subst (λ m. All (λ v. v < m) xs) (sym d) (subst (λ ys. All (λ v. v < length g) ys) (sym e)
      (all_below (length g) (take k (drop f.set_aside_from set_aside)) (λ v i. subst (λ m. v < m) h.running.inside_length (member_below mask v (h.running.open_levels.listed_inside v
      (gone_aside settled set_aside v (in_drop f.set_aside_from set_aside v (in_take k (drop f.set_aside_from set_aside) v i))))))))

  pub once : (k : ℕ) {xs : List ℕ} → xs ≡ take k (drop f.set_aside_from set_aside) → Once xs
  once k e = subst Once (sym e) (once_take k (drop f.set_aside_from set_aside) (once_drop f.set_aside_from set_aside h.running.open_levels.apart.aside_once))

  in_aside : (v : ℕ) → In (listed aside) v → In (listed set_aside) v
  in_aside v i = in_drop f.set_aside_from set_aside v (in_take (f.set_aside_upto - f.set_aside_from) (drop f.set_aside_from set_aside) v i)

  -- it is not settled
  pub fresh : {xs : List ℕ} → xs ≡ aside → (p : Player) → Apart (settled p) xs
  fresh e p = subst (Apart (settled p)) (sym e)
      (apart_from (settled p) aside (λ v i j. no_both (in_aside v j) (h.running.open_levels.apart.aside_apart p v i)))

  abbrev pub level : Level
  level = level_at (members mask) settled set_aside f

  abbrev pub won : Tail
  won = tail_at f f.player

  abbrev pub lost : Tail
  lost = tail_at f (opponent f.player)

  abbrev pub IsFreed : Partition → Type 0
  IsFreed y = IsReopened (length g) level aside (since lost x.partition.settled) (since won x.partition.settled) won lost x.partition.subgame.plan y

  pub tops_are : {xs : List ℕ} → xs ≡ greatest_of f set_aside → (v : ℕ) → level.tops v ≡ listed xs v
  tops_are e v = sym (ap (λ ys. listed ys v) e ∙ ap (λ ys. listed ys v) greatest_is)

  -- what is set aside is as it was while the opponent took what he attracts
  pub aside_still : {y : Solver} {xs ys : List ℕ} → Loses g (members mask) f x y → xs ≡ aside_of f ys → ys ≡ y.set_aside.items → xs ≡ aside
  aside_still l e d = e ∙ ap (aside_of f) (d ∙ ap (λ s. s.items) l.kept.set_aside)

  pub greatest_still : {y : Solver} {xs ys : List ℕ} → Loses g (members mask) f x y → xs ≡ greatest_of f ys → ys ≡ y.set_aside.items
      → xs ≡ greatest_of f set_aside
  greatest_still l e d = e ∙ ap (greatest_of f) (d ∙ ap (λ s. s.items) l.kept.set_aside)

  pub fits_still : {y : Solver} {ys : List ℕ} → Loses g (members mask) f x y → ys ≡ y.set_aside.items
      → ((f.set_aside_from ≤ f.tops_upto) × (f.tops_upto ≤ length ys)) × ((f.set_aside_from ≤ f.set_aside_upto) × (f.set_aside_upto ≤ length ys))
  fits_still l d = fits (d ∙ ap (λ s. s.items) l.kept.set_aside)

  -- the active ones of it are listed first
  pub listed_below : (A : VertexSet) {before xs first : List ℕ} → first ≡ before ++ filter (λ v. A v) xs → before ≡ [] → xs ≡ aside
      → All (λ v. v < length g) first
  listed_below A {before} {xs} e n d = subst (λ ys. All (λ v. v < length g) ys) (sym (e ∙ ap (λ ys. ys ++ filter (λ v. A v) xs) n))
      (All-filter (λ v. A v) (λ v. v < length g) xs (below (f.set_aside_upto - f.set_aside_from) d refl))

  pub shared : IsShared g level aside (since lost x.partition.settled) (since won x.partition.settled) x.partition.subgame.plan
  shared = subst (λ ys. IsShared g level ys (since lost x.partition.settled) (since won x.partition.settled) x.partition.subgame.plan) (sym aside_is)
      (end_shared h.before f (end_levels h) h.none)

  -- what is set aside is active again, and what the player won is free
  module _ (mask' : List Bool) {xs : List ℕ} (e : xs ≡ aside) (len : length mask' ≡ length x.partition.subgame.active)
      (has : (v : ℕ) → members mask' v ≡ union (members x.partition.subgame.active) (listed xs) v) where
    abbrev z : Partition
    z = with_active x.partition mask'

    active_now : (v : ℕ) → active_of z.subgame v ≡ listed aside v
    active_now v = has v ∙ (ap (λ ys. active_of x.partition.subgame v || listed ys v) e ∙ ap (λ b. b || listed aside v) (h.none v))

    parts_now : IsPartition (length g) z
    parts_now = record {
      sizes = record { active = len ∙ h.running.sizes.active; cursors = h.running.sizes.cursors; plan = h.running.sizes.plan };
      placed = h.running.placed;
      apart = λ p v i. false_from_ne_true (active_of z.subgame v) (λ a. no_both (in_aside v (sym (active_now v) ∙ a))
          (h.running.open_levels.apart.aside_apart p v i));
    }

    pub reopened : IsFreed z
    reopened = record { partition = parts_now; player = refl; other = refl; has_won = refl; has_lost = refl; active = active_now; plan = refl }

  pub shrinks : {x' y : Solver} {x3 : Partition} {greatest opened before ys : List ℕ} {k : ℕ} {end : Tail} → end.player ≡ opponent f.player
      → end.from ≡ length (settled end.player) → Loses g (members mask) f x y → BeginsAgain g won greatest y.partition x3 x'.list.items k
      → IsPartition (length g) x3 → greatest ≡ greatest_of f set_aside → HasOpened won x3 opened x'.partition x'.opened.items
      → opened ≡ before ++ filter (λ v. active_of x3.subgame v) ys → before ≡ [] → ys ≡ aside
      → ((v w : ℕ) → In (union (listed (since end x3.settled)) (listed x'.opened.items)) w → RestsOn g won x'.partition v w → ⊥)
      → IsPartition (length g) x'.partition → x'.set_aside.items ≡ take f.set_aside_from y.set_aside.items
      → y.frames.items ≡ x'.frames.items ++ f ∷ [] → x'.order ≡ y.order → x'.size ≡ y.size → Shrinks g (members mask) f x x' k
  shrinks {x'} {y} {x3} {greatest} {opened} {before} {ys} {k} {end} is end_is l b parts3 tops_is c' filtered none_before ys_is n parts4 truncated
      frames' order size =
      let o = opponent f.player in
      let s = shared in
      let r = l.reopened in
      let a = l.attracts in
      let p2 = l.partition in
      let tops = tops_are tops_is in
      let c : HasOpened won x3 (filter (λ v. active_of x3.subgame v) aside) x'.partition x'.opened.items =
      subst (λ xs. HasOpened won x3 xs x'.partition x'.opened.items) (filtered ∙ (ap (λ xs. xs ++ filter (λ v. active_of x3.subgame v) ys) none_before
      ∙ ap (λ xs. filter (λ v. active_of x3.subgame v) xs) ys_is)) c' in
      let t : end.from ≡ length (settled_of l.freed.settled o) =
      end_is ∙ (ap (λ p. length (settled p)) is ∙ ap (λ s. length (settled_of s o)) (sym l.settled)) in
      record {
        taken = y.list.items;
        shrunk = shrunk s r a p2 b tops c n is t;
        lost = lost_grows s r a p2 b tops c n is t ∙ ap (λ u. settled_of u o ++ y.list.items) l.settled;
        before = before_same s r a p2 b tops c n is t ∙ ap (λ u. take won.from (settled_of u f.player)) l.settled;
        partition = parts4;
        opened_right = opened_right s r a p2 b tops c n is t (below (f.set_aside_upto - f.set_aside_from) refl refl) parts3;
        opened_once = opened_once s r a p2 b tops c n is t (once (f.set_aside_upto - f.set_aside_from) refl) parts3;
        opened_all = opened_all s r a p2 b tops c n is t;
        set_aside = truncated ∙ ap (λ v. take f.set_aside_from v.items) l.kept.set_aside;
        frames = sym (ap (λ v. v.items) l.kept.frames) ∙ frames';
        order = order ∙ l.kept.order;
        size = size ∙ l.kept.size;
      }
