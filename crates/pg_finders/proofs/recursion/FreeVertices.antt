-- What is free where the recursion goes back: as sets, and where a vertex is taken.
use Rattle.pg_finders.proofs.Common.{◌≡◌, ℕ, ◌<◌, Bool, true, false, ◌&&◌, ◌||◌, not, inl, inr, List, [], ◌∷◌, ◌++◌, Option, refl, sym, ◌∙◌, ap}
use Rattle.pg_finders.proofs.Common.{subst, arith, append_assoc, ◌==◌, eqb-true, or_cases, or_left, false_from_ne_true, length-set}
use Rattle.pg_finders.proofs.Common.{slice_set, Graph, Player, opponent, VertexSet, In, union, without, IsAttractedRow, listed, settled_of, active_of}
use Rattle.pg_finders.proofs.Common.{own_or_other, member_below, HasTaken}
use Rattle.pg_finders.specs.declared.recursion.partition.Partition.{Partition}
use Rattle.pg_finders.specs.declared.recursion.settled.Settled.{Settled}
use Rattle.pg_finders.specs.private.recursion.Settled.{since, IsPlaced, IsWithout}
use Rattle.pg_finders.specs.declared.recursion.settled.Tail.{Tail}
use Rattle.pg_finders.specs.private.recursion.Partition.{free_of, IsPartition, FitsPartition, HasFewerFree, KeepsBehind, Puts}
use Rattle.pg_finders.proofs.Masks.{members-unset}
use Rattle.pg_finders.proofs.Sets.{no_both, only}
use Rattle.pg_finders.proofs.recursion.ListsAsSets.{in_rest, prefix_or_rest, in_drop}
use Rattle.pg_finders.proofs.recursion.RepeatedAttraction.{all_listed}
use Rattle.pg_finders.proofs.recursion.AttractionSteps.{grown_one, grown_then}
use Rattle.pg_finders.proofs.recursion.PlacedLists.{listed_from_is}

-- what is free, where the lists are placed
pub free_is : {n : ℕ} {x : Partition} (t : Tail) → IsPartition n x → (v : ℕ) → free_of t x v ≡ union (active_of x.subgame) (listed (since t x.settled)) v
free_is {n} {x} t a v = ap (λ b. active_of x.subgame v || b)
    (listed_from_is x.settled.places.items (settled_of x.settled t.player) (a.placed.table t.player) t.from v)

-- a free vertex that is not active is settled
pub settled_free : {n : ℕ} {x : Partition} (t : Tail) → IsPartition n x → (v : ℕ) → In (free_of t x) v → active_of x.subgame v ≡ false → In (listed (since t x.settled)) v
settled_free {n} {x} t a v i m = elim (or_cases (active_of x.subgame v) (listed (since t x.settled) v) (sym (free_is t a v) ∙ i)) [
  | inl y ↦ absurd (no_both y m)
  | inr y ↦ y
]

pub free_below : {n : ℕ} {x : Partition} (t : Tail) → IsPartition n x → (v : ℕ) → In (free_of t x) v → v < n
free_below {n} {x} t a v i = elim (or_cases (active_of x.subgame v) (listed (since t x.settled) v) (sym (free_is t a v) ∙ i)) [
  | inl y ↦ (let l = member_below x.subgame.active v y in omega (arith, l, a.sizes.active))
  | inr y ↦ all_listed (λ u. u < n) (settled_of x.settled t.player) (a.placed.below t.player) v (in_drop t.from (settled_of x.settled t.player) v y)
]

less_active : (a l b : Bool) → (b ≡ true → l ≡ false) → ((a && not b) || l) ≡ ((a || l) && not b)
less_active true true true f = absurd (let h = f refl in cc h)
less_active true false true f = refl
less_active false true true f = absurd (let h = f refl in cc h)
less_active false false true f = refl
less_active true l false f = refl
less_active false true false f = refl
less_active false false false f = refl

less_settled : (a l b : Bool) → (b ≡ true → a ≡ false) → (a || (l && not b)) ≡ ((a || l) && not b)
less_settled true l true f = absurd (let h = f refl in cc h)
less_settled false l b f = refl
less_settled true l false f = refl

-- an active vertex is active no more
module _ {n : ℕ} {x : Partition} (t : Tail) (a : IsPartition n x) (v : ℕ) (i : In (active_of x.subgame) v) where
  abbrev y : Partition
  y = record x { subgame = record x.subgame { active = slice_set x.subgame.active v false } }

  now : (w : ℕ) → active_of y.subgame w ≡ (active_of x.subgame w && not (v == w))
  now w = members-unset x.subgame.active v w

  was : (w : ℕ) → In (active_of y.subgame) w → In (active_of x.subgame) w
  was w j = (only (active_of x.subgame w) (v == w) (sym (now w) ∙ j)).0

  pub unset_partition : IsPartition n y
  unset_partition = record {
    sizes = record { active = length-set x.subgame.active v false ∙ a.sizes.active; cursors = a.sizes.cursors; plan = a.sizes.plan };
    placed = a.placed;
    apart = λ p w j. false_from_ne_true (active_of y.subgame w) (λ z. no_both (was w z) (a.apart p w j));
  }

  pub unset_free : (w : ℕ) → free_of t y w ≡ without (free_of t x) (λ u. v == u) w
  unset_free w = free_is t unset_partition w ∙ (ap (λ b. b || listed (since t x.settled) w) (now w)
      ∙ (less_active (active_of x.subgame w) (listed (since t x.settled) w) (v == w)
      (λ e. false_from_ne_true (listed (since t x.settled) w) (λ z. no_both (subst (In (active_of x.subgame)) (eqb-true v w e) i)
      (a.apart t.player w (in_drop t.from (settled_of x.settled t.player) w z))))
      ∙ ap (λ b. b && not (v == w)) (sym (free_is t a w))))

  pub unset_fewer : HasFewerFree t x y
  unset_fewer = record {
    other = refl;
    own = refl;
    active = was;
    rest = λ w j. j;
    free = λ w m. false_from_ne_true (free_of t y w) (λ z. no_both (only (free_of t x w) (v == w) (sym (unset_free w) ∙ z)).0 m);
  }

-- a settled vertex is settled no more
module _ {n : ℕ} {x : Partition} (t : Tail) (a : IsPartition n x) (v : ℕ) (m : active_of x.subgame v ≡ false) (i : In (listed (since t x.settled)) v) (settled : Settled)
    (placed : IsPlaced n settled) (own : IsWithout v (settled_of x.settled t.player) (settled_of settled t.player))
    (other : settled_of settled (opponent t.player) ≡ settled_of x.settled (opponent t.player)) where
  abbrev z : Partition
  z = record x { settled = settled }

  rest_now : (w : ℕ) → listed (since t z.settled) w ≡ (listed (since t x.settled) w && not (v == w))
  rest_now w = own.from t.from w i

  rest_was : (w : ℕ) → In (listed (since t z.settled)) w → In (listed (since t x.settled)) w
  rest_was w j = (only (listed (since t x.settled) w) (v == w) (sym (rest_now w) ∙ j)).0

  was_settled : (p : Player) (w : ℕ) → In (listed (settled_of settled p)) w → In (listed (settled_of x.settled p)) w
  was_settled p w j = elim (own_or_other p t.player) [
    | inl e ↦ subst (λ q. In (listed (settled_of x.settled q)) w) (sym e) (only (listed (settled_of x.settled t.player) w) (v == w)
        (sym (own.from 0 w (in_drop t.from (settled_of x.settled t.player) v i)) ∙ subst (λ q. In (listed (settled_of settled q)) w) e j)).0
    | inr e ↦ subst (λ q. In (listed (settled_of x.settled q)) w) (sym e) (subst (λ xs. In (listed xs) w) other
        (subst (λ q. In (listed (settled_of settled q)) w) e j))
  ]

  pub unsettled_partition : IsPartition n z
  unsettled_partition = record { sizes = a.sizes; placed = placed; apart = λ p w j. a.apart p w (was_settled p w j) }

  pub unsettled_free : (w : ℕ) → free_of t z w ≡ without (free_of t x) (λ u. v == u) w
  unsettled_free w = free_is t unsettled_partition w ∙ (ap (λ b. active_of x.subgame w || b) (rest_now w)
      ∙ (less_settled (active_of x.subgame w) (listed (since t x.settled) w) (v == w) (λ e. subst (λ u. active_of x.subgame u ≡ false) (eqb-true v w e) m)
      ∙ ap (λ b. b && not (v == w)) (sym (free_is t a w))))

  pub unsettled_fewer : HasFewerFree t x z
  unsettled_fewer = record {
    other = other;
    own = own.before t.from i;
    active = λ w j. j;
    rest = rest_was;
    free = λ w k. false_from_ne_true (free_of t z w) (λ j. no_both (only (free_of t x w) (v == w) (sym (unsettled_free w) ∙ j)).0 k);
  }

-- a row leads to the list also where others stand before it that are not free
pub leads_behind : {g : Graph} {p : Player} {F : VertexSet} {v : ℕ} {o : Option ℕ} (first list : List ℕ) → ((w : ℕ) → In (listed first) w → F w ≡ false)
    → In F v → IsAttractedRow g p (union F (listed list)) (listed list) (v, o) → IsAttractedRow g p (union F (listed (first ++ list))) (listed (first ++ list)) (v, o)
leads_behind {F = F} {v} first list apart i h = record {
  inside = or_left (F v) (listed (first ++ list) v) i;
  fresh = false_from_ne_true (listed (first ++ list) v) (λ y. elim (prefix_or_rest first list v y) [
    | inl a ↦ no_both i (apart v a)
    | inr b ↦ no_both b h.fresh
  ]);
  own = λ e. (let c = h.own e in (c.0, c.1, c.2, in_rest first list c.0 c.3));
  forced = λ n. (let c = h.forced n in (
    c.0,
    λ w e u. elim (or_cases (F w) (listed (first ++ list) w) u) [
      | inl f ↦ in_rest first list w (c.1 w e (or_left (F w) (listed list w) f))
      | inr y ↦ y
    ],
  ));
}

-- a free vertex is taken, by a row that leads to what is listed
pub put_grown : {g : Graph} {p : Player} {t : Tail} {x z : Partition} {choice : Option ℕ} {v : ℕ} (first list : List ℕ) → In (free_of t x) v
    → Puts t p v choice x z → IsAttractedRow g p (union (free_of t x) (listed (first ++ list))) (listed (first ++ list)) (v, choice)
    → KeepsBehind g p first t x list z (list ++ v ∷ [])
put_grown {g} {p} {t} {x} {z} {choice} {v} first list i puts leads = λ before old prefix h.
    subst (λ ys. HasTaken g p before old prefix (free_of t z) z.subgame.plan ys) (append_assoc first list (v ∷ []))
    (grown_then {new = z.subgame.plan} h (grown_one (record {
      active = i;
      now = puts.free;
      winner = puts.winner;
      elsewhere = puts.elsewhere;
      leads = rw puts.choice_is leads;
    })))

pub not_listed : {n : ℕ} {t : Tail} {x : Partition} {list : List ℕ} → FitsPartition n t x list → (v : ℕ) → In (free_of t x) v → listed list v ≡ false
not_listed {n} {t} {x} {list} f v i = false_from_ne_true (listed list v) (λ y. no_both i (f.apart v y))
