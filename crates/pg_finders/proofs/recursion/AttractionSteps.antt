-- The steps of an attraction in place: nothing is taken, one vertex is taken, and one step after another; and what is done.
use Rattle.pg_finders.proofs.Common.{◌≡◌, ◌≢◌, ℕ, suc, ◌<◌, true, false, ◌&&◌, not, ◌⊎◌, inl, inr, List, [], ◌∷◌, ◌++◌, length, take, refl, sym, ◌∙◌, ap, subst}
use Rattle.pg_finders.proofs.Common.{arith, append_assoc, rules, Some, ◌==◌, and-true, eq-eqb, or_cases, cases_Bool, or_left, or_right, or_parts}
use Rattle.pg_finders.proofs.Common.{false_from_ne_true, append-nil, take-append-le, take_all, Player, opponent, Graph, HasEdge, owner_of, VertexSet, In, union}
use Rattle.pg_finders.proofs.Common.{without, IsAttractedRow, Plan, listed, Once, winners_of, choices_of, SameAt, IsAttracted, place, Before}
use Rattle.pg_finders.proofs.Common.{HasTaken, AttractsNoFurther, both_ways}
use Rattle.std.proofs.Math.Bool.{or-false}
use Rattle.std.proofs.lemmas.Bool.{and_left, and_right, not_from_true}
use Rattle.pg_game.proofs.Players.{not_own}
use Rattle.pg_finders.proofs.Sets.{only, minus, minus_both, no_both}
use Rattle.pg_finders.proofs.recursion.ListsAsSets.{listed-append, once_join, apart_from, in_prefix, in_rest, prefix_or_rest, one_listed}

place_prefix : (xs ys : List ℕ) (v : ℕ) → In (listed xs) v → place (xs ++ ys) v ≡ place xs v
place_prefix [] ys v i = absurd (cc i)
place_prefix (x ∷ xs) ys v i = elim (cases_Bool (x == v)) [
  | inl e ↦ rw e refl
  | inr n ↦ rw n (ap suc (place_prefix xs ys v (let j : listed xs v ≡ true = rw n at i in j)))
]

place_below : (xs : List ℕ) (v : ℕ) → In (listed xs) v → place xs v < length xs
place_below [] v i = absurd (cc i)
place_below (x ∷ xs) v i = elim (cases_Bool (x == v)) [
  | inl e ↦ rw e (omega arith)
  | inr n ↦ (let j : listed xs v ≡ true = rw n at i in let l = place_below xs v j in rw n (omega (arith, l)))
]

place_new : (xs : List ℕ) (v : ℕ) → listed xs v ≡ false → place (xs ++ v ∷ []) v ≡ length xs
place_new [] v n = rw (eq-eqb v v refl) refl
place_new (x ∷ xs) v n = let a = or_parts (x == v) (listed xs v) n in rw a.0 (ap suc (place_new xs v a.1))

-- what was listed earlier stays so
before_prefix : (xs ys : List ℕ) (v w : ℕ) → In (listed xs) v → Before xs v w → Before (xs ++ ys) v w
before_prefix xs ys v w i b = search (rules, in_prefix, place_prefix)

-- nothing is taken
pub grown_none : {g : Graph} {p : Player} {A : VertexSet} {plan : Plan} {prefix : List ℕ} → HasTaken g p A plan prefix A plan prefix
grown_none {A = A} {prefix = prefix} = search (rules, append-nil, and-true)

-- the player takes an active vertex, by a row that leads to what is listed
pub record TakesOne (g : Graph) (p : Player) (A : VertexSet) (old : Plan) (prefix : List ℕ) (A' : VertexSet) (new : Plan) (v : ℕ) : Type 0 where
  pub active : In A v
  pub now : (w : ℕ) → A' w ≡ without A (λ u. v == u) w
  pub winner : winners_of new v ≡ p
  pub elsewhere : (w : ℕ) → w ≢ v → SameAt old new w
  pub leads : IsAttractedRow g p (union A (listed prefix)) (listed prefix) (v, choices_of new v)

module _ {g : Graph} {p : Player} {A A' : VertexSet} {old new : Plan} {prefix : List ℕ} {v : ℕ} (h : TakesOne g p A old prefix A' new v) where
  earlier : (w : ℕ) → In (listed prefix) w → Before (prefix ++ v ∷ []) v w
  earlier w i = search (rules, place_new, h.leads.fresh, place_prefix, place_below, in_prefix)

  pub grown_one : HasTaken g p A old prefix A' new (prefix ++ v ∷ [])
  grown_one = record {
    more = v ∷ [];
    list_is = refl;
    once = (refl, tt);
    were_active = λ w i. subst (In A) (one_listed v w i) h.active;
    active_is = λ w. h.now w ∙ ap (λ b. A w && not b) (sym (or-false (v == w)));
    his = λ w i. subst (λ u. winners_of new u ≡ p) (one_listed v w i) h.winner;
    same = λ w n. h.elsewhere w (λ e. no_both (subst (In A) (sym e) h.active) n);
    elsewhere = λ w n. h.elsewhere w (λ e. no_both (or_left (v == w) false (eq-eqb v w (sym e))) n);
    leads = λ w i. subst (λ u. owner_of g u ≡ p → (x : ℕ) × (choices_of new u ≡ Some x) × HasEdge g u x × Before (prefix ++ v ∷ []) u x) (one_listed v w i)
        (λ o. (let c = h.leads.own o in (c.0, c.1, c.2, earlier c.0 c.3)));
    pushed = λ w x i o e u. subst (λ y. owner_of g y ≡ opponent p → HasEdge g y x → Before (prefix ++ v ∷ []) y x) (one_listed v w i)
        (λ o' e'. earlier x ((h.leads.forced (not_own p (owner_of g v) o')).1 x e' u)) o e;
  }

-- what a step says of the lists and the active vertices
module _ {g : Graph} {p : Player} {A A' : VertexSet} {old new : Plan} {prefix list : List ℕ} (h : HasTaken g p A old prefix A' new list) where
  pub grown_cases : (v : ℕ) → In (listed list) v → In (listed prefix) v ⊎ In (listed h.more) v
  grown_cases v i = prefix_or_rest prefix h.more v (subst (λ xs. In (listed xs) v) h.list_is i)

  pub grown_prefix : (v : ℕ) → In (listed prefix) v → In (listed list) v
  grown_prefix v i = subst (λ xs. In (listed xs) v) (sym h.list_is) (in_prefix prefix h.more v i)

  pub grown_more : (v : ℕ) → In (listed h.more) v → In (listed list) v
  grown_more v i = subst (λ xs. In (listed xs) v) (sym h.list_is) (in_rest prefix h.more v i)

  pub grown_active : (v : ℕ) → In A' v → In A v
  grown_active v i = (only (A v) (listed h.more v) (sym (h.active_is v) ∙ i)).0

  pub grown_fewer : (v : ℕ) → A v ≡ false → A' v ≡ false
  grown_fewer v n = false_from_ne_true (A' v) (λ y. no_both (grown_active v y) n)

  pub grown_taken : (v : ℕ) → In (listed h.more) v → A' v ≡ false
  grown_taken v i = h.active_is v ∙ and_right (A v) (not (listed h.more v)) (not_from_true (listed h.more v) i)

  -- what is inside and not listed is active
  pub grown_left : (v : ℕ) → In (union A (listed prefix)) v → listed list v ≡ false → In A' v
  grown_left v u n = search (rules, or_cases, h.active_is, minus, false_from_ne_true, h.more, no_both, grown_more, grown_prefix)

  -- all that is listed is in the subgame
  pub grown_inside : (v : ℕ) → In (listed list) v → In (union A (listed prefix)) v
  grown_inside v i = search (rules, grown_cases, or_right, or_left, h.were_active)

  -- what is active or listed stays the same
  pub grown_union : (v : ℕ) → union A' (listed list) v ≡ union A (listed prefix) v
  grown_union v = search (rules, both_ways, or_cases, or_left, grown_active, grown_inside, cases_Bool, or_right, grown_left)

  -- the list begins with the prefix
  pub prefix_taken : take (length prefix) list ≡ prefix
  prefix_taken = search (rules, h.list_is, take-append-le, h.more, take_all)

  -- all is done, so the list is what the player attracts to its prefix
  pub grown_attracted : AttractsNoFurther g p (union A (listed prefix)) (listed list) (listed list)
      → IsAttracted g p (union A (listed prefix)) (listed prefix) (listed list) (choices_of new) (place list)
  grown_attracted d = record {
    inside = grown_inside;
    target = grown_prefix;
    own = λ v w u o e i. elim (cases_Bool (listed list v)) [
      | inl y ↦ y
      | inr n ↦ absurd (no_both i (d.own v w u n o e))
    ];
    forced = λ v u o f. elim (cases_Bool (listed list v)) [
      | inl y ↦ y
      | inr n ↦ (let q = d.other v u n (not_own p (owner_of g v) o) in absurd (no_both (f q.0 q.1 q.2) q.3))
    ];
    leads = λ v i n o. (let q = h.leads v (in_more v i n) o in (q.0, q.1, q.2, q.3.0, q.3.1));
    pushed = λ v w i n o e u. h.pushed v w (in_more v i n) o e u;
  }
    where
      in_more : (v : ℕ) → In (listed list) v → listed prefix v ≡ false → In (listed h.more) v
      in_more v i n = elim (grown_cases v i) [ inl y ↦ absurd (no_both y n) | inr y ↦ y ]

-- one step after another
module _ {g : Graph} {p : Player} {A A1 A2 : VertexSet} {old mid new : Plan} {prefix list1 list2 : List ℕ} (a : HasTaken g p A old prefix A1 mid list1)
    (b : HasTaken g p A1 mid list1 A2 new list2) where
  later : (v w : ℕ) → In (listed a.more) v → Before list1 v w → Before list2 v w
  later v w i h = subst (λ xs. Before xs v w) (sym b.list_is) (before_prefix list1 b.more v w (grown_more a v i) h)

  which : (v : ℕ) → In (listed (a.more ++ b.more)) v → In (listed a.more) v ⊎ In (listed b.more) v
  which v i = prefix_or_rest a.more b.more v i

  pub grown_then : HasTaken g p A old prefix A2 new list2
  grown_then = record {
    more = a.more ++ b.more;
    list_is = b.list_is ∙ (ap (λ xs. xs ++ b.more) a.list_is ∙ append_assoc prefix a.more b.more);
    once = once_join a.more b.more a.once b.once (apart_from a.more b.more (λ v i j. no_both (b.were_active v j) (grown_taken a v i)));
    were_active = λ v i. elim (which v i) [ inl y ↦ a.were_active v y | inr y ↦ grown_active a v (b.were_active v y) ];
    active_is = λ v. b.active_is v ∙ (ap (λ x. x && not (listed b.more v)) (a.active_is v)
        ∙ (minus_both (A v) (listed a.more v) (listed b.more v) ∙ ap (λ x. A v && not x) (sym (listed-append a.more b.more v))));
    his = λ v i. elim (which v i) [ inl y ↦ (b.same v (grown_taken a v y)).0 ∙ a.his v y | inr y ↦ b.his v y ];
    same = λ v n. (let x = a.same v n in let y = b.same v (grown_fewer a v n) in (y.0 ∙ x.0, y.1 ∙ x.1));
    elsewhere = λ v n. (
        let m = or_parts (listed a.more v) (listed b.more v) (sym (listed-append a.more b.more v) ∙ n) in
        let x = a.elsewhere v m.0 in
        let y = b.elsewhere v m.1 in
        (y.0 ∙ x.0, y.1 ∙ x.1));
    leads = λ v i o. elim (which v i) [
      | inl y ↦ (let h = a.leads v y o in (h.0, (b.same v (grown_taken a v y)).1 ∙ h.1, h.2, later v h.0 y h.3))
      | inr y ↦ b.leads v y o
    ];
    pushed = λ v w i o e u. elim (which v i) [
      | inl y ↦ later v w y (a.pushed v w y o e u)
      | inr y ↦ b.pushed v w y o e (grown_union a w ∙ u)
    ];
  }

-- one more vertex is listed
pub once_push : (xs : List ℕ) (v : ℕ) → Once xs → listed xs v ≡ false → Once (xs ++ v ∷ [])
once_push xs v o n = once_join xs (v ∷ []) o (refl, tt) (apart_from xs (v ∷ []) (λ w i j. no_both i (subst (λ u. listed xs u ≡ false) (one_listed v w j) n)))

pub apart_push : (xs : List ℕ) (v : ℕ) (A A' : VertexSet) → ((w : ℕ) → In (listed xs) w → A w ≡ false) → ((w : ℕ) → A' w ≡ without A (λ u. v == u) w)
    → (w : ℕ) → In (listed (xs ++ v ∷ [])) w → A' w ≡ false
apart_push xs v A A' apart now w i = search (rules, prefix_or_rest, and_left, and_right, not_from_true, eq-eqb, one_listed)
