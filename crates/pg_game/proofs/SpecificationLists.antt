-- Specifications in lists of their parts, one by one.
use Rattle.pg_game.proofs.Common.{◌≡◌, ℕ, ◌<◌, List, [], length, map, get_or, refl, sym, ◌∙◌, ap, arith, length-map}
use Rattle.pg_game.proofs.Common.{get_or-map, ext_get_or, Player, Even, Spec, no_vertex, graph_of, ids_of, priorities_of, owners_of, successor_lists}
use Rattle.pg_game.proofs.Common.{AreParts, spec_from}
use Rattle.pg_game.proofs.Common.{specs_from}
use Rattle.pg_game.proofs.game.Parts as part

abbrev pub spec_of : ℕ → ℕ → Player → List ℕ → Spec
spec_of i p o ws = record { id = i; priority = p; owner = o; successors = ws }

module _ {ids ps : List ℕ} {os : List Player} {rows : List (List ℕ)} (a : AreParts ids ps os rows) where
  abbrev specs : List Spec
  specs = specs_from ids ps os rows

  pub length_specs : length (specs_from ids ps os rows) ≡ length ids
  length_specs = length-map (graph_of ids ps os rows) spec_from ∙ part.length_is a refl

  pub place_within : {ss : List Spec} → specs_from ids ps os rows ≡ ss → (v : ℕ) → v < length ss → v < length ids
  place_within is v l = let e = ap (λ (xs : List Spec). length xs) is in omega (arith, e, length_specs, l)

  -- the specification of the parts at a place
  abbrev pub spec_in : ℕ → Spec
  spec_in v = record { id = get_or ids v 0; priority = get_or ps v 0; owner = get_or os v Even; successors = get_or rows v [] }

  pub spec_at : (v : ℕ) (d : Spec) → v < length ids → get_or (specs_from ids ps os rows) v d ≡ spec_in v
  spec_at v d l =
      let x = get_or-map spec_from (graph_of ids ps os rows) v no_vertex d (omega (arith, l, part.length_is a refl)) in
      x ∙ (λ i. spec_of (part.id_is a refl v i) (part.priority_is a refl v i) (part.owner_is a refl v i) (part.successors_are a refl v i))

  -- a part of each specification, in order
  part_of : {X : Type 0} (f : Spec → X) (xs : List X) (d : X) → length xs ≡ length ids → ((v : ℕ) → f (spec_in v) ≡ get_or xs v d) → map f specs ≡ xs
  part_of f xs d n at =
      let m = length-map specs f in
      ext_get_or d (map f specs) xs (m ∙ (length_specs ∙ sym n)) (λ v l.
      get_or-map f specs v (spec_in v) d (omega (arith, l, m)) ∙ (ap f (spec_at v (spec_in v) (omega (arith, l, m, length_specs))) ∙ at v))

  pub ids_are : ids_of (specs_from ids ps os rows) ≡ ids
  ids_are = part_of (λ s. s.id) ids 0 refl (λ v. refl)

  pub priorities_are : priorities_of (specs_from ids ps os rows) ≡ ps
  priorities_are = part_of (λ s. s.priority) ps 0 a.priorities (λ v. refl)

  pub owners_are : owners_of (specs_from ids ps os rows) ≡ os
  owners_are = part_of (λ s. s.owner) os Even a.owners (λ v. refl)

  pub lists_are : successor_lists (specs_from ids ps os rows) ≡ rows
  lists_are = part_of (λ s. s.successors) rows [] a.successors (λ v. refl)

  -- the same of their value
  module _ {ss : List Spec} (is : specs_from ids ps os rows ≡ ss) where
    pub length_is : length ss ≡ length ids
    length_is = sym (ap (λ (xs : List Spec). length xs) is) ∙ length_specs

    pub ids_is : ids_of ss ≡ ids
    ids_is = sym (ap (λ (xs : List Spec). ids_of xs) is) ∙ ids_are

    pub priorities_is : priorities_of ss ≡ ps
    priorities_is = sym (ap (λ (xs : List Spec). priorities_of xs) is) ∙ priorities_are

    pub owners_is : owners_of ss ≡ os
    owners_is = sym (ap (λ (xs : List Spec). owners_of xs) is) ∙ owners_are

    pub lists_is : successor_lists ss ≡ rows
    lists_is = sym (ap (λ (xs : List Spec). successor_lists xs) is) ∙ lists_are

    pub spec_is : (v : ℕ) (d : Spec) → v < length ss → get_or ss v d ≡ spec_in v
    spec_is v d l = sym (ap (λ (xs : List Spec). get_or xs v d) is) ∙ spec_at v d (place_within is v l)
