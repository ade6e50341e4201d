-- How the active ones of some vertices are given to the player who takes a subgame up again: none at first, and then one after another.
use Rattle.pg_finders.proofs.Common.{◌≡◌, ◌≢◌, ℕ, ◌+◌, ◌<◌, true, false, ◌⊎◌, inl, inr, List, [], ◌∷◌, ◌++◌, length, take, refl}
use Rattle.pg_finders.proofs.Common.{sym, ◌∙◌, ap, subst}
use Rattle.pg_finders.proofs.Common.{append_assoc, Option, None, Some, IfSome, IsNone, slice_index_or, Graph, HasEdge, In, listed}
use Rattle.pg_finders.proofs.Common.{active_of, IsGiven, Plan, SameAt, winners_of, choices_of}
use Rattle.pg_finders.specs.Part.{IsOut}
use Rattle.pg_finders.specs.declared.recursion.partition.Partition.{Partition}
use Rattle.pg_finders.specs.declared.recursion.settled.Tail.{Tail}
use Rattle.pg_finders.specs.private.recursion.Partition.{free_of, IsPartition, GivesActive}
use Rattle.std.proofs.lemmas.List.{take_more}
use Rattle.pg_finders.proofs.Sets.{no_both}
use Rattle.pg_finders.proofs.recursion.ListsAsSets.{prefix_or_rest, one_listed}
use Rattle.pg_finders.proofs.recursion.FilteredLists.{filter_takes, filter_passes}
use Rattle.pg_finders.proofs.recursion.BegunSubgame.{given_more}

-- the partitions have the same free vertices
pub free_same : (t : Tail) (x y : Partition) → y.subgame.active ≡ x.subgame.active → y.settled ≡ x.settled → (v : ℕ) → free_of t y v ≡ free_of t x v
free_same t x y active settled v = rw (active, settled) refl

-- a vertex that has a free successor has one as its choice
pub chosen_free : (g : Graph) (t : Tail) (x y : Partition) (v : ℕ) (choice : Option ℕ) → ((w : ℕ) → free_of t y w ≡ free_of t x w)
    → IfSome choice (λ w. HasEdge g v w × In (free_of t y) w) → (IsNone choice → IsOut g (free_of t y) v) → ((w : ℕ) × HasEdge g v w × In (free_of t x) w)
    → (w : ℕ) × (choice ≡ Some w) × HasEdge g v w × In (free_of t x) w
chosen_free g t x y v None same found none leads = absurd (none refl leads.0 leads.1 (same leads.0 ∙ leads.2))
chosen_free g t x y v (Some w) same found none leads = (w, refl, found.0, sym (same w) ∙ found.1)

-- the vertex is given to the player, with a free successor where it has one
pub record WritesChoice (g : Graph) (t : Tail) (v : ℕ) (choice : Option ℕ) (y z : Partition) : Type 0 where
  pub partition : IsPartition (length g) z
  pub found : IfSome choice (λ w. HasEdge g v w × In (free_of t y) w)
  pub none : IsNone choice → IsOut g (free_of t y) v
  pub winner : winners_of z.subgame.plan v ≡ t.player
  pub choice_is : choices_of z.subgame.plan v ≡ choice
  pub elsewhere : (w : ℕ) → w ≢ v → SameAt y.subgame.plan z.subgame.plan w
  pub active : z.subgame.active ≡ y.subgame.active
  pub settled : z.settled ≡ y.settled

-- what is written does not change the sizes
pub written_partition : {n : ℕ} (y : Partition) (plan : Plan) → IsPartition n y → length plan.rows.items ≡ length y.subgame.plan.rows.items
    → IsPartition n (record y { subgame = record y.subgame { plan = plan } })
written_partition y plan a size = record {
  sizes = record {
    active = a.sizes.active;
    cursors = a.sizes.cursors;
    plan = size ∙ a.sizes.plan;
  };
  placed = a.placed;
  apart = a.apart;
}

-- the active ones of the first i are given
module _ {g : Graph} {t : Tail} (vs : List ℕ) (i : ℕ) {x y : Partition} {list list' : List ℕ} (l : i < length vs)
    (h : GivesActive g t (take i vs) x y list list') where
  abbrev v : ℕ
  v = slice_index_or vs i 0

  either : (u : ℕ) → In (listed (take (i + 1) vs)) u → In (listed (take i vs)) u ⊎ (v ≡ u)
  either u j = elim (prefix_or_rest (take i vs) (v ∷ []) u (subst (λ ys. In (listed ys) u) (take_more vs i 0 l) j)) [
    | inl a ↦ inl a
    | inr b ↦ inr (one_listed v u b)
  ]

  -- the next one is not active
  pub gives_not : active_of x.subgame v ≡ false → GivesActive g t (take (i + 1) vs) x y list list'
  gives_not n = record {
    partition = h.partition;
    list_is = h.list_is ∙ ap (λ ys. list ++ ys) (sym (filter_passes (λ u. active_of x.subgame u) vs i l n));
    given = λ u j a. elim (either u j) [
      | inl b ↦ h.given u b a
      | inr e ↦ absurd (no_both a (subst (λ w. active_of x.subgame w ≡ false) e n))
    ];
    same = h.same;
    active = h.active;
    settled = h.settled;
  }

  -- the next one is given too
  pub gives_one : (z : Partition) (choice : Option ℕ) → active_of x.subgame v ≡ true → ((w : ℕ) × HasEdge g v w × In (free_of t x) w)
      → WritesChoice g t v choice y z → GivesActive g t (take (i + 1) vs) x z list (list' ++ v ∷ [])
  gives_one z choice is leads e = record {
    partition = e.partition;
    list_is = ap (λ ys. ys ++ v ∷ []) h.list_is ∙ (append_assoc list _ (v ∷ [])
        ∙ ap (λ ys. list ++ ys) (sym (filter_takes (λ u. active_of x.subgame u) vs i l is)));
    given = λ u j a. elim (either u j) [
      | inl b ↦ given_more g (free_of t x) t.player y.subgame.plan z.subgame.plan v here e.elsewhere u (h.given u b a)
      | inr q ↦ subst (λ w. IsGiven g (free_of t x) t.player z.subgame.plan w) q here
    ];
    same = λ u n. (
        let a = h.same u n in
        let b = e.elsewhere u (λ q. no_both is (subst (λ w. active_of x.subgame w ≡ false) q n)) in
        (b.0 ∙ a.0, b.1 ∙ a.1));
    active = e.active ∙ h.active;
    settled = e.settled ∙ h.settled;
  }
    where
      here : IsGiven g (free_of t x) t.player z.subgame.plan v
      here = (
        e.winner,
        (let q = chosen_free g t x y v choice (free_same t x y h.active h.settled) e.found e.none leads in
            (q.0, e.choice_is ∙ q.1, q.2, q.3)),
      )
