-- Lists of vertices as sets.
use Rattle.pg_finders.proofs.Common.{◌≡◌, ℕ, zero, suc, ◌<◌, ◌≤◌, Bool, true, false, ◌||◌, ◌⊎◌, inl, inr, List, [], ◌∷◌, ◌++◌, length, take, drop, get_or, All}
use Rattle.pg_finders.proofs.Common.{refl, sym, ◌∙◌, subst, arith, rules, ◌==◌, slice_set, eqb-true, eq-eqb, or_cases, or_left, or_right, false_from_ne_true}
use Rattle.pg_finders.proofs.Common.{take-append-drop, In, members, or_parts, listed, Once, Apart, how_many}
use Rattle.std.proofs.lemmas.List.{get_or-set_other}
use Rattle.std.proofs.lemmas.List.Folds.{list_any-append}
use Rattle.pg_finders.proofs.Sets.{no_both, only}
use Rattle.pg_finders.proofs.Masks.{members-unset, how_many-unset, some_member}

pub listed-append : (xs ys : List ℕ) (v : ℕ) → listed (xs ++ ys) v ≡ (listed xs v || listed ys v)
listed-append xs ys v = list_any-append (λ u. u == v) xs ys

pub in_prefix : (xs ys : List ℕ) (v : ℕ) → In (listed xs) v → In (listed (xs ++ ys)) v
in_prefix xs ys v i = listed-append xs ys v ∙ or_left (listed xs v) (listed ys v) i

pub in_rest : (xs ys : List ℕ) (v : ℕ) → In (listed ys) v → In (listed (xs ++ ys)) v
in_rest xs ys v i = listed-append xs ys v ∙ or_right (listed xs v) (listed ys v) i

pub prefix_or_rest : (xs ys : List ℕ) (v : ℕ) → In (listed (xs ++ ys)) v → In (listed xs) v ⊎ In (listed ys) v
prefix_or_rest xs ys v i = or_cases (listed xs v) (listed ys v) (sym (listed-append xs ys v) ∙ i)

pub in_take : (k : ℕ) (xs : List ℕ) (v : ℕ) → In (listed (take k xs)) v → In (listed xs) v
in_take k xs v i = subst (λ ys. In (listed ys) v) (take-append-drop k xs) (in_prefix (take k xs) (drop k xs) v i)

pub in_drop : (k : ℕ) (xs : List ℕ) (v : ℕ) → In (listed (drop k xs)) v → In (listed xs) v
in_drop k xs v i = subst (λ ys. In (listed ys) v) (take-append-drop k xs) (in_rest (take k xs) (drop k xs) v i)

pub take_or_drop : (k : ℕ) (xs : List ℕ) (v : ℕ) → In (listed xs) v → In (listed (take k xs)) v ⊎ In (listed (drop k xs)) v
take_or_drop k xs v i = prefix_or_rest (take k xs) (drop k xs) v (subst (λ ys. In (listed ys) v) (sym (take-append-drop k xs)) i)

pub one_listed : (u v : ℕ) → In (listed (u ∷ [])) v → u ≡ v
one_listed u v i = elim (or_cases (u == v) false i) [ inl y ↦ eqb-true u v y | inr n ↦ absurd (cc n) ]

pub some_length : (xs : List ℕ) (v : ℕ) → In (listed xs) v → 0 < length xs
some_length [] v i = absurd (cc i)
some_length (x ∷ xs) v i = omega arith

-- nothing of the other is in the one
pub apart_other : (xs ys : List ℕ) → Apart xs ys → Apart ys xs
apart_other xs ys f v i = false_from_ne_true (listed xs v) (λ y. no_both i (f v y))

-- where a member of both is absurd
pub apart_from : (xs ys : List ℕ) → ((v : ℕ) → In (listed xs) v → In (listed ys) v → ⊥) → Apart xs ys
apart_from xs ys f v i = false_from_ne_true (listed ys v) (f v i)

pub once_apart : (xs ys : List ℕ) → Once (xs ++ ys) → Apart xs ys
once_apart [] ys h v i = absurd (cc i)
once_apart (x ∷ xs) ys h v i = go (x == v) refl (once_apart xs ys h.1 v)
  where
    fresh : listed ys x ≡ false
    fresh = (or_parts (listed xs x) (listed ys x) (sym (listed-append xs ys x) ∙ h.0)).1

    go : (b : Bool) → (x == v) ≡ b → (In (listed xs) v → listed ys v ≡ false) → listed ys v ≡ false
    go true e f = subst (λ u. listed ys u ≡ false) (eqb-true x v e) fresh
    go false e f = f (let j : listed xs v ≡ true = rw e at i in j)

pub once_left : (xs ys : List ℕ) → Once (xs ++ ys) → Once xs
once_left [] ys h = tt
once_left (x ∷ xs) ys h = ((or_parts (listed xs x) (listed ys x) (sym (listed-append xs ys x) ∙ h.0)).0, once_left xs ys h.1)

pub once_right : (xs ys : List ℕ) → Once (xs ++ ys) → Once ys
once_right [] ys h = h
once_right (x ∷ xs) ys h = once_right xs ys h.1

pub once_join : (xs ys : List ℕ) → Once xs → Once ys → Apart xs ys → Once (xs ++ ys)
once_join [] ys a b f = b
once_join (x ∷ xs) ys a b f = search (rules, once_join xs ys a.1 b (λ v i. f v (or_right (x == v) (listed xs v) i)), listed-append, or_left, eq-eqb, or_right)

pub once_take : (k : ℕ) (xs : List ℕ) → Once xs → Once (take k xs)
once_take k xs o = once_left (take k xs) (drop k xs) (subst Once (sym (take-append-drop k xs)) o)

pub once_drop : (k : ℕ) (xs : List ℕ) → Once xs → Once (drop k xs)
once_drop k xs o = once_right (take k xs) (drop k xs) (subst Once (sym (take-append-drop k xs)) o)

-- the prefix has nothing of the rest
pub take_apart : (k : ℕ) (xs : List ℕ) → Once xs → Apart (take k xs) (drop k xs)
take_apart k xs o = once_apart (take k xs) (drop k xs) (subst Once (sym (take-append-drop k xs)) o)

-- a list of different vertices of a mask is no longer than the mask has vertices
pub once_fits : (xs : List ℕ) (mask : List Bool) → Once xs → ((v : ℕ) → In (listed xs) v → members mask v ≡ true) → length xs ≤ how_many mask
once_fits [] mask o f = omega arith
once_fits (x ∷ xs) mask o f =
    let here : members mask x ≡ true = f x (rw (eq-eqb x x refl) refl) in
    let h = once_fits xs (slice_set mask x false) o.1 (λ v i. kept v i (x == v) refl (f v)) in
    omega (arith, h, how_many-unset mask x here)
  where
    kept : (v : ℕ) → listed xs v ≡ true → (b : Bool) → (x == v) ≡ b → (((x == v) || listed xs v) ≡ true → members mask v ≡ true)
        → members (slice_set mask x false) v ≡ true
    kept v i true e f = absurd (let q = eqb-true x v e in let m : listed xs x ≡ true = subst (λ u. listed xs u ≡ true) (sym q) i in no_both m o.0)
    kept v i false e f = get_or-set_other mask x v false false (λ q. grind (arith, eq-eqb x v (sym q))) ∙ f (rw (e, i) refl)

-- of a mask that has more vertices than the list, one is not listed
pub missing : (xs : List ℕ) (mask : List Bool) → length xs < how_many mask → (v : ℕ) × (members mask v ≡ true) × (listed xs v ≡ false)
missing [] mask l = let h = some_member mask (omega (arith, l)) in (h.0, h.1, refl)
missing (x ∷ xs) mask l = go (members mask x) refl (missing xs)
  where
    go : (b : Bool) → members mask x ≡ b → ((m : List Bool) → length xs < how_many m → (v : ℕ) × (members m v ≡ true) × (listed xs v ≡ false))
        → (v : ℕ) × (members mask v ≡ true) × (listed (x ∷ xs) v ≡ false)
    go true e more =
        let h = more (slice_set mask x false) (omega (arith, l, how_many-unset mask x e)) in
        let o = only (members mask h.0) (x == h.0) (sym (members-unset mask x h.0) ∙ h.1) in
        (h.0, o.0, rw (o.1, h.2) refl)
    go false e more =
        let h = more mask (omega (arith, l)) in
        (h.0, h.1, rw (false_from_ne_true (x == h.0) (λ q. no_both h.1 (subst (λ u. members mask u ≡ false) (eqb-true x h.0 q) e)), h.2) refl)

pub listed_get : (xs : List ℕ) (k d : ℕ) → k < length xs → listed xs (get_or xs k d) ≡ true
listed_get [] k d l = absurd (omega (arith, l))
listed_get (x ∷ xs) zero d l = rw (eq-eqb x x refl) refl
listed_get (x ∷ xs) (suc k) d l = or_right (x == get_or xs k d) (listed xs (get_or xs k d)) (listed_get xs k d (omega (arith, l)))

-- where all that is listed is below a number, each item is
pub all_below : (n : ℕ) (xs : List ℕ) → ((v : ℕ) → In (listed xs) v → v < n) → All (λ v. v < n) xs
all_below n xs f k d l = f (get_or xs k d) (listed_get xs k d l)
