-- What a subgame owes where it is begun in place.
use Rattle.pg_finders.proofs.Common.{◌≡◌, ◌≢◌, ℕ, Bool, true, false, ◌&&◌, ◌||◌, not, inl, inr, List, refl, sym, ◌∙◌, ap, subst, arith}
use Rattle.pg_finders.proofs.Common.{false_from_ne_true, Player, Graph, VertexSet, In, Within, members, union, without}
use Rattle.pg_finders.proofs.Common.{Plan, listed, SameAt, IsGiven}
use Rattle.pg_finders.proofs.Sets.{no_both, only}
use Rattle.pg_finders.proofs.Masks.{order}

-- where the set is what is active with what is listed, and nothing is both, each is the set without the other
pub rest_listed : (a l u : Bool) → (a || l) ≡ u → (l ≡ true → a ≡ false) → l ≡ (u && not a)
rest_listed true true u e f = absurd (let h = f refl in cc h)
rest_listed true false u e f = rw (← e) refl
rest_listed false true u e f = rw (← e) refl
rest_listed false false u e f = rw (← e) refl

pub rest_active : (a l u : Bool) → (a || l) ≡ u → (l ≡ true → a ≡ false) → a ≡ (u && not l)
rest_active true true u e f = absurd (let h = f refl in cc h)
rest_active true false u e f = rw (← e) refl
rest_active false true u e f = rw (← e) refl
rest_active false false u e f = rw (← e) refl

-- what is left of a mask without a list, and the list, are the mask
with_rest : (a l : Bool) → (l ≡ true → a ≡ true) → ((a && not l) || l) ≡ a
with_rest true true f = refl
with_rest true false f = refl
with_rest false true f = sym (f refl)
with_rest false false f = refl

rest_is : (was mid now : List Bool) (list given : List ℕ) → mid ≡ was → given ≡ list
    → ((v : ℕ) → members now v ≡ without (members mid) (listed given) v) → (v : ℕ) → members now v ≡ without (members was) (listed list) v
rest_is was mid now list given same same_list left v =
    left v ∙ (ap (λ m. without (members m) (listed given) v) same ∙ ap (λ xs. without (members was) (listed xs) v) same_list)

pub rest_union : (was mid now : List Bool) (list given : List ℕ) → mid ≡ was → given ≡ list
    → ((v : ℕ) → members now v ≡ without (members mid) (listed given) v) → Within (listed list) (members was) → (v : ℕ)
    → union (members now) (listed list) v ≡ members was v
rest_union was mid now list given same same_list left inside v =
    ap (λ b. b || listed list v) (rest_is was mid now list given same same_list left v) ∙ with_rest (members was v) (listed list v) (inside v)

pub rest_apart : (was mid now : List Bool) (list given : List ℕ) → mid ≡ was → given ≡ list
    → ((v : ℕ) → members now v ≡ without (members mid) (listed given) v) → (v : ℕ) → In (listed list) v → members now v ≡ false
rest_apart was mid now list given same same_list left v i = false_from_ne_true (members now v)
    (λ y. no_both i (only (members was v) (listed list v) (sym (rest_is was mid now list given same same_list left v) ∙ y)).1)

-- one more vertex is given, and the others stay so
pub given_more : (g : Graph) (A : VertexSet) (p : Player) (old new : Plan) (v : ℕ) → IsGiven g A p new v → ((w : ℕ) → w ≢ v → SameAt old new w)
    → (w : ℕ) → IsGiven g A p old w → IsGiven g A p new w
given_more g A p old new v here elsewhere w h = elim (order w v) [
  | inl l ↦ kept (elsewhere w (λ e. omega (arith, e, l)))
  | inr (inl e) ↦ subst (λ u. IsGiven g A p new u) (sym e) here
  | inr (inr l) ↦ kept (elsewhere w (λ e. omega (arith, e, l)))
]
  where
    kept : SameAt old new w → IsGiven g A p new w
    kept s = (s.0 ∙ h.0, (h.1.0, s.1 ∙ h.1.1, h.1.2, h.1.3))
