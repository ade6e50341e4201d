-- Specifications without fault, test by test.
use Rattle.pg_game.proofs.Common.{◌≡◌, ℕ, zero, suc, ◌+◌, ◌∙◌, ap, drop, get_or, drop_more, ◌==◌, false_from_ne_true, eqb-true, ◌<◌, ◌≤◌, Bool, true, false}
use Rattle.pg_game.proofs.Common.{inl, inr, List, [], ◌∷◌, length, refl, sym, subst, arith, rules, Option}
use Rattle.pg_game.proofs.Common.{Some, None, if◌then◌else◌, nat_lt, Contains, ltb-false, le-ltb, lt-ltb, not-false, Spec, GameFault, first_fault, fault_or}
use Rattle.pg_game.proofs.Common.{first_repeated, first_without, first_unknown, first_unspecified, IsSpecified, edges, max_vertices, max_edges, ids_of}
use Rattle.pg_game.proofs.Common.{rows_fault}
use Rattle.std.specs.Prelude.{not, find}
use Rattle.pg_game.proofs.Members.{Contains-head, Contains-tail, Contains-cons}
use Rattle.pg_game.specs.declared.specification.GameFault.TheVariants.{TooManyVertices, NoSuccessor, TooManyEdges, Unknown}
use Rattle.pg_game.specs.Specification.{is_empty, paired_or}

pub record IsSound (specs : List Spec) : Type 0 where
  pub nonempty : 0 < length specs
  pub vertices : length specs ≤ max_vertices
  pub once : first_repeated [] (ids_of specs) ≡ None
  pub successors : first_without specs ≡ None
  pub edges_fit : edges specs ≤ max_edges
  pub known : first_unknown specs specs ≡ None

pub none_or : {A : Type 0} (b : Bool) (a : A) (o : Option A) → (if b then Some a else o) ≡ None → (b ≡ false) × (o ≡ None)
none_or true a o e = absurd (cc e)
none_or false a o e = (refl, e)

no_fault : {A : Type 0} (f : A → GameFault) (a : Option A) (o : Option GameFault) → fault_or f a o ≡ None → (a ≡ None) × (o ≡ None)
no_fault f x1 o e = search (rules)

some_first : {X : Type 0} (xs : List X) → is_empty xs ≡ false → 0 < length xs
some_first x0 e = search (rules)

pub sound_is : (specs : List Spec) → first_fault specs ≡ None → IsSound specs
sound_is specs e = search (rules, none_or, no_fault, some_first, ltb-false)

pub not_empty : {X : Type 0} (xs : List X) → 0 < length xs → is_empty xs ≡ false
not_empty x0 l = search (rules)

pub sound_has_none : (specs : List Spec) → IsSound specs → first_fault specs ≡ None
sound_has_none specs s = search (rules, le-ltb, s.vertices, not_empty, s.nonempty, s.once, s.successors, s.edges_fit, s.known)

-- some, not too many, and no identifier twice
pub record AreListed (specs : List Spec) : Type 0 where
  pub nonempty : 0 < length specs
  pub vertices : length specs ≤ max_vertices
  pub once : first_repeated [] (ids_of specs) ≡ None

-- then the first fault is that of the rows
pub listed_fault : (specs : List Spec) → AreListed specs → first_fault specs ≡ rows_fault specs
listed_fault specs s = rw (not_empty specs s.nonempty, le-ltb max_vertices (length specs) s.vertices, s.once) refl

module _ (specs : List Spec) where
  rows_are : (b : Bool) (n : Option ℕ) (u : Option (ℕ × ℕ)) → first_without specs ≡ n → nat_lt max_edges (edges specs) ≡ b → first_unknown specs specs ≡ u
      → rows_fault specs ≡ fault_or (λ i. NoSuccessor i) n (if b then Some TooManyEdges else fault_or (λ (id, i). Unknown id i) u None)
  rows_are b n u e f g = rw (e, f, g) refl

  pub unknown_named : {id i : ℕ} → first_without specs ≡ None → edges specs ≤ max_edges → first_unknown specs specs ≡ Some (id, i)
      → rows_fault specs ≡ Some (Unknown id i)
  unknown_named e l f = rows_are _ _ _ e (le-ltb max_edges (edges specs) l) f

  pub rows_sound : first_without specs ≡ None → edges specs ≤ max_edges → first_unknown specs specs ≡ None → rows_fault specs ≡ None
  rows_sound e l f = rows_are _ _ _ e (le-ltb max_edges (edges specs) l) f

-- each specification has a successor
pub each_has : (specs : List Spec) → first_without specs ≡ None → (s : Spec) → Contains specs s → 0 < length s.successors
each_has [] e s (k, l, q) = absurd (omega arith)
each_has (t ∷ specs) e s m =
    let h = none_or (is_empty t.successors) t.id (first_without specs) e in
    elim (Contains-cons t s specs m) [
      | inl q ↦ subst (λ (x : Spec). 0 < length x.successors) q (some_first t.successors h.0)
      | inr n ↦ each_has specs h.1 s n
    ]

none_pair : (id : ℕ) (o : Option ℕ) (p : Option (ℕ × ℕ)) → paired_or id o p ≡ None → (o ≡ None) × (p ≡ None)
none_pair id x1 p e = search (rules)

none_found : (p : ℕ → Bool) (xs : List ℕ) → find p xs ≡ None → (i : ℕ) → Contains xs i → p i ≡ false
none_found p [] e i (k, l, q) = absurd (omega arith)
none_found p (x ∷ xs) e i m =
    let h = none_or (p x) x (find p xs) e in
    elim (Contains-cons x i xs m) [
      | inl q ↦ subst (λ (y : ℕ). p y ≡ false) q h.0
      | inr n ↦ none_found p xs h.1 i n
    ]

-- each successor is specified
pub each_known : (all specs : List Spec) → first_unknown all specs ≡ None →
    (s : Spec) → Contains specs s → (i : ℕ) → Contains s.successors i → IsSpecified all i ≡ true
each_known all [] e s (k, l, q) i m = absurd (omega arith)
each_known all (t ∷ specs) e s n i m =
    let h = none_pair t.id (first_unspecified all t.successors) (first_unknown all specs) e in
    elim (Contains-cons t s specs n) [
      | inl q ↦ not-false (IsSpecified all i) (none_found (λ j. not (IsSpecified all j)) t.successors h.0 i
          (subst (λ (x : Spec). Contains x.successors i) (sym q) m))
      | inr r ↦ each_known all specs h.1 s r i m
    ]

-- where each has a successor, there is none without
pub none_without : (specs : List Spec) → ((s : Spec) → Contains specs s → 0 < length s.successors) → first_without specs ≡ None
none_without [] h = refl
none_without (s ∷ specs) h = rw (not_empty s.successors (h s (zero, omega arith, refl))) (none_without specs (λ t (k, l, e). h t (suc k, omega arith, e)))

all_specified : (all : List Spec) (ws : List ℕ) → ((i : ℕ) → Contains ws i → IsSpecified all i ≡ true) → first_unspecified all ws ≡ None
all_specified all [] h = refl
all_specified all (w ∷ ws) h = rw (h w (Contains-head w ws)) (all_specified all ws (λ i m. h i (Contains-tail w i ws m)))

-- where each successor is specified, none is unknown
pub none_unknown : (all specs : List Spec) →
    ((s : Spec) → Contains specs s → (i : ℕ) → Contains s.successors i → IsSpecified all i ≡ true) → first_unknown all specs ≡ None
none_unknown all [] h = refl
none_unknown all (s ∷ specs) h =
    rw (all_specified all s.successors (h s (zero, omega arith, refl))) (none_unknown all specs (λ t (k, l, e). h t (suc k, omega arith, e)))

module _ (specs : List Spec) (k : ℕ) (s : Spec) (l : k < length specs) (is : s ≡ get_or specs k s) where
  next : drop k specs ≡ s ∷ drop (k + 1) specs
  next = drop_more specs k s l ∙ ap (λ (x : Spec). x ∷ drop (k + 1) specs) (sym is)

  pub without_here : is_empty s.successors ≡ true → first_without (drop k specs) ≡ Some s.id
  without_here e = rw (next, e) refl

  pub without_later : is_empty s.successors ≡ false → first_without (drop k specs) ≡ first_without (drop (k + 1) specs)
  without_later e = rw (next, e) refl

pub empty_is : {X : Type 0} (xs : List X) → is_empty xs ≡ (length xs == 0)
empty_is [] = refl
empty_is (x ∷ xs) = sym (false_from_ne_true (length (x ∷ xs) == 0) (λ t. let z = eqb-true (length (x ∷ xs)) 0 t in omega (arith, z)))

pub many_fault : (specs : List Spec) → max_vertices < length specs → first_fault specs ≡ Some TooManyVertices
many_fault specs l = rw (not_empty specs (omega (arith, l)), lt-ltb max_vertices (length specs) l) refl

pub some_of : (n : ℕ) → false ≡ (n == 0) → 0 < n
some_of zero e = absurd (cc e)
some_of (suc n) e = omega arith
