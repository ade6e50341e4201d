-- A search against the edges: a vertex more, and what it has found in the end.
use Rattle.pg_finders.proofs.Common.{◌≡◌, ◌≢◌, ℕ, suc, ◌<◌, ◌≤◌, Bool, true, false, ◌⊎◌, inl, inr, List, [], ◌∷◌, ◌++◌, length, set, replicate, refl, sym, ◌∙◌}
use Rattle.pg_finders.proofs.Common.{subst, arith, length-set, length-append, get_or-set_same, get_or-set_other, rules, ◌==◌, if◌then◌else◌, cases_eq, eq-eqb}
use Rattle.pg_finders.proofs.Common.{get_or_append_left, get_or_push, length-replicate, Graph, VertexSet, In, members, Walk, EdgeBelow, AreLeading, IsSeen}
use Rattle.pg_finders.proofs.Common.{IsQueue}
use Rattle.std.specs.Prelude.{slice_index}
use Rattle.pg_game.proofs.Masks.{members-set}
use Rattle.std.proofs.lemmas.Bool.{ne_eqb}
use Rattle.pg_game.proofs.Masks.{none_mask}
use Rattle.pg_finders.proofs.Rows.{last_or}

-- a member of a mask with one more vertex
set_cases : (mask : List Bool) (v x : ℕ) → v < length mask → In (members (set mask v true)) x → (x ≡ v) ⊎ ((x ≢ v) × In (members mask) x)
set_cases mask v x l i = search (rules, cases_eq, get_or-set_other)

pub still_set : (mask : List Bool) (v x : ℕ) → v < length mask → In (members mask) x → In (members (set mask v true)) x
still_set mask v x l i = members-set mask v l x ∙ rw i refl

pub now_set : (mask : List Bool) (v : ℕ) → v < length mask → In (members (set mask v true)) v
now_set mask v l = get_or-set_same mask v true false l

module _ (g : Graph) (U : VertexSet) (top goal : ℕ) where
  pub leading_none : (n : ℕ) (next : List ℕ) → n ≡ length g → length next ≡ length g → AreLeading g U top goal (replicate n false) next
  leading_none n next e f = record {
    size = length-replicate n false ∙ e;
    next_size = f;
    rank = λ v. 0;
    edge = λ v i. absurd (let z = none_mask n v in cc (i, z));
    nearer = λ v i. absurd (let z = none_mask n v in cc (i, z));
  }

  module _ (taken : List Bool) (next : List ℕ) (v to : ℕ) (l : v < length g) (new : members taken v ≡ false) (e : EdgeBelow g U top v to)
      (near : (to ≡ goal) ⊎ In (members taken) to) (h : AreLeading g U top goal taken next) where
    lt : v < length taken
    lt = omega (arith, h.size)

    abbrev ranks : ℕ → ℕ
    ranks x = if x == v then suc (h.rank to) else h.rank x

    not_new : (x : ℕ) → In (members taken) x → x ≢ v
    not_new x i q = let z : members taken x ≡ false = rw q new in cc (i, z)

    old_rank : (x : ℕ) → x ≢ v → ranks x ≡ h.rank x
    old_rank x n = rw (ne_eqb x v n) refl

    new_rank : ranks v ≡ suc (h.rank to)
    new_rank = rw (eq-eqb v v refl) refl

    new_next : slice_index (set next v to) v ≡ to
    new_next = get_or-set_same next v to 0 (omega (arith, h.next_size))

    nearer_new : ((to ≡ goal) ⊎ In (members taken) to) → (to ≡ goal) ⊎ (In (members (set taken v true)) to × (ranks to < ranks v))
    nearer_new x0 = search (rules, still_set, lt, old_rank, not_new, new_rank)

    pub leading_push : AreLeading g U top goal (set taken v true) (set next v to)
    leading_push = record {
      size = length-set taken v true ∙ h.size;
      next_size = length-set next v to ∙ h.next_size;
      rank = ranks;
      edge = λ x i. elim (set_cases taken v x lt i) [
        | inl q ↦ subst (λ z. EdgeBelow g U top z (slice_index (set next v to) z)) (sym q) (subst (EdgeBelow g U top v) (sym new_next) e)
        | inr (n, j) ↦ subst (EdgeBelow g U top x) (sym (get_or-set_other next v x to 0 n)) (h.edge x j)
      ];
      nearer = λ x i. elim (set_cases taken v x lt i) [
        | inl q ↦ subst (λ z. (slice_index (set next v to) z ≡ goal)
            ⊎ (In (members (set taken v true)) (slice_index (set next v to) z) × (ranks (slice_index (set next v to) z) < ranks z))) (sym q)
            (subst (λ y. (y ≡ goal) ⊎ (In (members (set taken v true)) y × (ranks y < ranks v))) (sym new_next) (nearer_new near))
        | inr (n, j) ↦
            subst (λ y. (y ≡ goal) ⊎ (In (members (set taken v true)) y × (ranks y < ranks x))) (sym (get_or-set_other next v x to 0 n))
            (search (rules, still_set, lt, old_rank, not_new))
      ];
    }

  -- where all that leads to the goal or to a taken vertex is taken, so is the start of each walk to the goal
  pub walk_taken : (taken : VertexSet) → ((w : ℕ) → (w ≡ goal) ⊎ In taken w → IsSeen g U top taken w) → (v : ℕ) (vs : List ℕ)
      → Walk (EdgeBelow g U top) v vs goal → In taken v
  walk_taken taken closed v [] e = closed goal (inl refl) v e
  walk_taken taken closed v (w ∷ ws) e = closed w (inr (walk_taken taken closed w ws e.1)) v e.0

module _ (g : Graph) (goal : ℕ) where
  pub queue_one : (taken : List Bool) → goal < length g → ((v : ℕ) → members taken v ≡ false) → IsQueue g goal taken (goal ∷ [])
  queue_one taken l none = search (rules)

  pub queue_push : (taken : List Bool) (queue : List ℕ) (v : ℕ) → v < length g → v < length taken → IsQueue g goal taken queue
      → IsQueue g goal (set taken v true) (queue ++ v ∷ [])
  queue_push taken queue v l lt h = record {
    below = λ i li. elim (last_or queue v i li) [
      | inl m ↦ subst (λ x. x < length g) (sym (get_or_append_left queue (v ∷ []) 0 i m)) (h.below i m)
      | inr q ↦ subst (λ x. x < length g) (sym (get_or_push queue v 0 i (sym q))) l
    ];
    only = λ i li. elim (last_or queue v i li) [
      | inl m ↦ subst (λ x. (x ≡ goal) ⊎ In (members (set taken v true)) x) (sym (get_or_append_left queue (v ∷ []) 0 i m))
          (kept (slice_index queue i) (h.only i m))
      | inr q ↦ subst (λ x. (x ≡ goal) ⊎ In (members (set taken v true)) x) (sym (get_or_push queue v 0 i (sym q))) (inr (now_set taken v lt))
    ];
    start = (h.start.0, omega (arith, h.start.1, length-append queue (v ∷ [])), get_or_append_left queue (v ∷ []) 0 h.start.0 h.start.1 ∙ h.start.2);
    known = λ x i. elim (set_cases taken v x lt i) [
      | inl q ↦ (length queue, omega (arith, length-append queue (v ∷ [])), get_or_push queue v 0 (length queue) refl ∙ sym q)
      | inr (n, j) ↦ (let k = h.known x j in (k.0, omega (arith, k.1, length-append queue (v ∷ [])), get_or_append_left queue (v ∷ []) 0 k.0 k.1 ∙ k.2))
    ];
  }
    where
      kept : (x : ℕ) → (x ≡ goal) ⊎ In (members taken) x → (x ≡ goal) ⊎ In (members (set taken v true)) x
      kept x (inl q) = inl q
      kept x (inr i) = inr (still_set taken v x lt i)

  -- the whole queue was gone through
  pub all_seen : (U : VertexSet) (top : ℕ) (taken : List Bool) (queue : List ℕ) (at : ℕ) → length queue ≤ at → IsQueue g goal taken queue
      → ((i : ℕ) → i < at → IsSeen g U top (members taken) (slice_index queue i)) → (w : ℕ) → (w ≡ goal) ⊎ In (members taken) w
      → IsSeen g U top (members taken) w
  all_seen U top taken queue at l h done w (inl q) =
      subst (IsSeen g U top (members taken)) (h.start.2 ∙ sym q) (done h.start.0 (omega (arith, l, h.start.1)))
  all_seen U top taken queue at l h done w (inr i) =
      let k = h.known w i in
      subst (IsSeen g U top (members taken)) k.2 (done k.0 (omega (arith, l, k.1)))
