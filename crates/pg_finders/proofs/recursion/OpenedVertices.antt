-- Settled vertices that are active again: none, one, and more after others; and what rests on a vertex meanwhile.
use Rattle.pg_finders.proofs.Common.{◌≡◌, ℕ, ◌<◌, ◌+◌, ◌≤◌, Bool, true, false, ◌&&◌, ◌||◌, not, inl, inr, List, [], ◌∷◌, ◌++◌}
use Rattle.pg_finders.proofs.Common.{length, drop, refl, sym, ◌∙◌, ap, subst, arith, append_assoc, append-nil, and-true}
use Rattle.pg_finders.proofs.Common.{All, ◌==◌, eqb-true, eq-eqb, or_cases, or_right, cases_Bool, false_from_ne_true}
use Rattle.pg_finders.proofs.Common.{length-set, get_or-set_same, get_or-set_other, slice_set, Graph, Player, Even, Odd}
use Rattle.pg_finders.proofs.Common.{opponent, In, Within, members, listed, Apart, settled_of, active_of, choices_of}
use Rattle.pg_finders.proofs.Common.{own_or_other, slice_index, below_more, length-append}
use Rattle.std.proofs.Math.ListN.{get_or-append}
use Rattle.std.proofs.Math.Bool.{or-false}
use Rattle.std.proofs.lemmas.Bool.{and_right, not_from_true}
use Rattle.pg_finders.specs.declared.recursion.partition.Partition.{Partition}
use Rattle.pg_finders.specs.declared.recursion.settled.Settled.{Settled}
use Rattle.pg_finders.specs.private.recursion.Settled.{since, IsPlaced, IsWithout}
use Rattle.pg_finders.specs.declared.recursion.settled.Tail.{Tail}
use Rattle.pg_finders.specs.private.recursion.Partition.{IsPartition, RestsOn, HasOpened}
use Rattle.pg_finders.proofs.Sets.{no_both, only, minus_both}
use Rattle.pg_finders.proofs.recursion.ListsAsSets.{listed-append, in_drop, one_listed, once_join, prefix_or_rest, all_below}
use Rattle.pg_finders.proofs.recursion.RepeatedAttraction.{all_listed}
use Rattle.pg_finders.proofs.recursion.PlacedLists.{from_at}
use Rattle.pg_finders.proofs.recursion.FreeVertices.{unsettled_partition}

-- a vertex is added to a mask
members-set : (mask : List Bool) (v w : ℕ) → v < length mask → members (slice_set mask v true) w ≡ (members mask w || (v == w))
members-set mask v w l = elim (cases_Bool (v == w)) [
  | inl y ↦ rw y (subst (λ u. members (slice_set mask v true) u ≡ (members mask u || true)) (eqb-true v w y)
      (get_or-set_same mask v true false l ∙ sym (or_right (members mask v) true refl)))
  | inr n ↦ rw n (get_or-set_other mask v w true false (λ e. no_both (eq-eqb v w (sym e)) n) ∙ sym (or-false (members mask w)))
]

-- what is settled for the one player is not so for the other
other_misses : (lists : Player → List ℕ) → Apart (lists Even) (lists Odd) → (p : Player) (v : ℕ) → In (listed (lists p)) v
    → listed (lists (opponent p)) v ≡ false
other_misses lists a Even v i = a v i
other_misses lists a Odd v i = false_from_ne_true (listed (lists Even) v) (λ j. no_both i (a v j))

-- nothing is active again
pub opened_none : (t : Tail) (x : Partition) (prefix : List ℕ) → HasOpened t x prefix x prefix
opened_none t x prefix = record {
  more = [];
  list_is = sym (append-nil prefix);
  once = tt;
  were = λ v i. absurd (cc i);
  active = λ v. sym (or-false (active_of x.subgame v));
  rest = λ v. sym (and-true (listed (since t x.settled) v));
  other = refl;
  own = refl;
  plan = refl;
}

-- what is settled and free still was so
pub opened_fewer : {t : Tail} {x y : Partition} {xs ys : List ℕ} → HasOpened t x xs y ys → Within (listed (since t y.settled)) (listed (since t x.settled))
opened_fewer {t} {x} {y} {xs} {ys} a v i = (only (listed (since t x.settled) v) (listed a.more v) (sym (a.rest v) ∙ i)).0

-- what rests on a vertex did so before
pub rested : (g : Graph) {t : Tail} {x y : Partition} {xs ys : List ℕ} → HasOpened t x xs y ys → (v w : ℕ) → RestsOn g t y v w → RestsOn g t x v w
rested g {t} {x} {y} {xs} {ys} a v w (i, e, o) = (
  opened_fewer a v i,
  e,
  elim o [
    | inl q ↦ inl q
    | inr q ↦ inr (sym (ap (λ plan. choices_of plan v) a.plan) ∙ q)
  ],
)

-- one vertex is active again
module _ {n : ℕ} {x : Partition} (t : Tail) (a : IsPartition n x) (v : ℕ) (i : In (listed (since t x.settled)) v) (settled : Settled)
    (placed : IsPlaced n settled) (own : IsWithout v (settled_of x.settled t.player) (settled_of settled t.player))
    (other : settled_of settled (opponent t.player) ≡ settled_of x.settled (opponent t.player)) where
  abbrev y : Partition
  y = record x { subgame = record x.subgame { active = slice_set x.subgame.active v true }; settled = settled }

  was : In (listed (settled_of x.settled t.player)) v
  was = in_drop t.from (settled_of x.settled t.player) v i

  below : v < length x.subgame.active
  below =
      let l = all_listed (λ u. u < n) (settled_of x.settled t.player) (a.placed.below t.player) v was in
      omega (arith, l, a.sizes.active)

  now : (w : ℕ) → active_of y.subgame w ≡ (active_of x.subgame w || (v == w))
  now w = members-set x.subgame.active v w below

  misses : (p : Player) → listed (settled_of settled p) v ≡ false
  misses p = elim (own_or_other p t.player) [
    | inl e ↦ subst (λ q. listed (settled_of settled q) v ≡ false) (sym e)
        (own.from 0 v was
        ∙ and_right (listed (settled_of x.settled t.player) v) (not (v == v)) (not_from_true (v == v) (eq-eqb v v refl)))
    | inr e ↦ subst (λ q. listed (settled_of settled q) v ≡ false) (sym e)
        (ap (λ xs. listed xs v) other ∙ other_misses (settled_of x.settled) a.placed.players t.player v was)
  ]

  pub opened_partition : IsPartition n y
  opened_partition =
      let b = unsettled_partition t a v (a.apart t.player v was) i settled placed own other in
      record {
        sizes = record {
          active = length-set x.subgame.active v true ∙ a.sizes.active;
          cursors = a.sizes.cursors;
          plan = a.sizes.plan;
        };
        placed = placed;
        apart = λ p w j. false_from_ne_true (active_of y.subgame w) (λ z.
            elim (or_cases (active_of x.subgame w) (v == w) (sym (now w) ∙ z)) [
              | inl k ↦ no_both k (b.apart p w j)
              | inr k ↦ no_both (subst (In (listed (settled_of settled p))) (sym (eqb-true v w k)) j) (misses p)
            ]);
      }

  pub opened_one : (prefix : List ℕ) → HasOpened t x prefix y (prefix ++ v ∷ [])
  opened_one prefix = record {
    more = v ∷ [];
    list_is = refl;
    once = (refl, tt);
    were = λ w j. subst (In (listed (since t x.settled))) (one_listed v w j) i;
    active = λ w. now w ∙ ap (λ b. active_of x.subgame w || b) (sym (or-false (v == w)));
    rest = λ w. own.from t.from w i ∙ ap (λ b. listed (since t x.settled) w && not b) (sym (or-false (v == w)));
    other = other;
    own = own.before t.from i;
    plan = refl;
  }

  -- so none of a row rests on the vertex up to the one that is active again
  pub opened_row : (g : Graph) (row : List ℕ) (at to : ℕ) → v ≡ slice_index row at
      → ((k : ℕ) → k < at → RestsOn g t x (slice_index row k) to → ⊥) → (k : ℕ) → k < at + 1
      → RestsOn g t y (slice_index row k) to → ⊥
  opened_row g row at to e old = below_more (λ k. RestsOn g t y (slice_index row k) to → ⊥) at
      (λ k l r. old k l (rested g (opened_one []) (slice_index row k) to r))
      (λ r. no_both (eq-eqb v (slice_index row at) e)
      (only (listed (since t x.settled) (slice_index row at)) (v == slice_index row at) (sym (own.from t.from (slice_index row at) i) ∙ r.0)).1)

-- others are active again after them
pub opened_then : {t : Tail} {x y z : Partition} {xs ys zs : List ℕ} → HasOpened t x xs y ys → HasOpened t y ys z zs → HasOpened t x xs z zs
opened_then {t} {x} {y} {z} {xs} {ys} {zs} a b = record {
  more = a.more ++ b.more;
  list_is = b.list_is ∙ (ap (λ l. l ++ b.more) a.list_is ∙ append_assoc xs a.more b.more);
  once = once_join a.more b.more a.once b.once (λ v i. false_from_ne_true (listed b.more v) (λ j.
      no_both i (only (listed (since t x.settled) v) (listed a.more v) (sym (a.rest v) ∙ b.were v j)).1));
  were = λ v i. elim (prefix_or_rest a.more b.more v i) [
    | inl j ↦ a.were v j
    | inr j ↦ opened_fewer a v (b.were v j)
  ];
  active = λ v. b.active v ∙ (ap (λ c. c || listed b.more v) (a.active v)
      ∙ (or_both (active_of x.subgame v) (listed a.more v) (listed b.more v)
      ∙ ap (λ c. active_of x.subgame v || c) (sym (listed-append a.more b.more v))));
  rest = λ v. b.rest v ∙ (ap (λ c. c && not (listed b.more v)) (a.rest v)
      ∙ (minus_both (listed (since t x.settled) v) (listed a.more v) (listed b.more v)
      ∙ ap (λ c. listed (since t x.settled) v && not c) (sym (listed-append a.more b.more v))));
  other = b.other ∙ a.other;
  own = b.own ∙ a.own;
  plan = b.plan ∙ a.plan;
}
  where
    or_both : (p q r : Bool) → ((p || q) || r) ≡ (p || (q || r))
    or_both true q r = refl
    or_both false q r = refl

-- the list is of vertices
pub opened_below : {n : ℕ} {t : Tail} {x y : Partition} {xs ys : List ℕ} → IsPartition n x → HasOpened t x xs y ys → All (λ v. v < n) xs
    → All (λ v. v < n) ys
opened_below {n} {t} {x} {y} {xs} {ys} p a b = all_below n ys (λ v i.
    elim (prefix_or_rest xs a.more v (subst (λ l. In (listed l) v) a.list_is i)) [
      | inl j ↦ all_listed (λ u. u < n) xs b v j
      | inr j ↦ all_listed (λ u. u < n) (settled_of x.settled t.player) (p.placed.below t.player) v
          (in_drop t.from (settled_of x.settled t.player) v (a.were v j))
    ])

-- and no shorter
pub opened_longer : {t : Tail} {x y : Partition} {xs ys : List ℕ} → HasOpened t x xs y ys → length xs ≤ length ys
opened_longer {t} {x} {y} {xs} {ys} a = let e = ap length a.list_is in omega (arith, e, length-append xs a.more)

-- nothing rests on the next place of a list that may have grown
pub opened_next : (g : Graph) {t : Tail} {x y : Partition} {xs ys : List ℕ} (next to : ℕ) → HasOpened t x xs y ys → next < length xs
    → to ≡ slice_index xs next → ((k : ℕ) → k < next → (v : ℕ) → RestsOn g t x v (slice_index xs k) → ⊥)
    → ((v : ℕ) → RestsOn g t y v to → ⊥)
    → (k : ℕ) → k < next + 1 → (v : ℕ) → RestsOn g t y v (slice_index ys k) → ⊥
opened_next g {t} {x} {y} {xs} {ys} next to a l e old none = below_more _ _
    (λ k b v r. old k b v (rested g a v (slice_index xs k) (subst (RestsOn g t y v) (same k (omega (arith, b, l))) r)))
    (λ v r. none v (subst (RestsOn g t y v) (same next l ∙ sym e) r))
  where
    same : (k : ℕ) → k < length xs → slice_index ys k ≡ slice_index xs k
    same k m = ap (λ l. slice_index l k) a.list_is ∙ get_or-append xs a.more 0 k m

-- nor on the next place of a list that stays
pub opened_place : (g : Graph) {t : Tail} {x y : Partition} {xs ys : List ℕ} (list : List ℕ) (from next to : ℕ) → HasOpened t x xs y ys
    → to ≡ slice_index list next → ((k : ℕ) → from ≤ k → k < next → (v : ℕ) → RestsOn g t x v (slice_index list k) → ⊥)
    → ((v : ℕ) → RestsOn g t y v to → ⊥)
    → (k : ℕ) → from ≤ k → k < next + 1 → (v : ℕ) → RestsOn g t y v (slice_index list k) → ⊥
opened_place g {t} {x} {y} {xs} {ys} list from next to a e old none k m b =
    below_more (λ j. from ≤ j → (v : ℕ) → RestsOn g t y v (slice_index list j) → ⊥) next
    (λ j c n v r. old j n c v (rested g a v (slice_index list j) r))
    (λ n v r. none v (subst (RestsOn g t y v) (sym e) r)) k b m

-- all places are passed
pub none_rests : (g : Graph) (t : Tail) (x : Partition) (from : ℕ) (list : List ℕ) (end : ℕ) → length list ≤ end
    → ((k : ℕ) → from ≤ k → k < end → (v : ℕ) → RestsOn g t x v (slice_index list k) → ⊥)
    → (v w : ℕ) → In (listed (drop from list)) w → RestsOn g t x v w → ⊥
none_rests g t x from list end l none v w i r =
    let a = from_at from list w i in none a.0 a.1 (omega (arith, a.2, l)) v (subst (RestsOn g t x v) (sym a.3) r)

-- the other player's list stays
pub opened_other : {t : Tail} {x y : Partition} {xs ys : List ℕ} (p : Player) → HasOpened t x xs y ys → p ≡ opponent t.player
    → settled_of y.settled p ≡ settled_of x.settled p
opened_other {t} {x} {y} {xs} {ys} p a e = subst (λ q. settled_of y.settled q ≡ settled_of x.settled q) (sym e) a.other
