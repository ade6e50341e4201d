-- Specifications, picked by their lines.
use Rattle.pg_game.proofs.Common.{◌≡◌, ℕ, ◌<◌, List, length, map, get_or, refl, sym, ◌∙◌, ap, subst, arith, All, All-permutation, IsPermutation, length-map}
use Rattle.pg_game.proofs.Common.{get_or-map, ext_get_or, IsPermutation-map, Spec, ids_of, ArePaired, AreResolvedSpecs}
use Rattle.std.specs.List.Sorted.{IsNonDecreasing, IsNonDecreasingBy}

-- what the numbers of the lines mean
abbrev pub picked : {X : Type 0} → List X → X → List (ℕ × ℕ) → List X
picked xs d lines = map (λ (line : ℕ × ℕ). get_or xs line.1 d) lines

abbrev pub named : List (ℕ × ℕ) → List ℕ
named lines = map (λ (line : ℕ × ℕ). line.0) lines

module _ {ids : List ℕ} {lines : List (ℕ × ℕ)} (p : ArePaired ids lines) where
  abbrev Fits : ℕ × ℕ → Type 0
  Fits line = (line.1 < length ids) × (line.0 ≡ get_or ids line.1 0)

  pub lines_fit : All (λ (line : ℕ × ℕ). (line.1 < length ids) × (line.0 ≡ get_or ids line.1 0)) lines
  lines_fit = All-permutation Fits p.before lines p.moved (λ k d l.
      let n : k < length ids = omega (arith, l, p.size) in
      subst Fits (sym (p.each k d n)) (n, refl))

  pub named_moves : IsPermutation ids (named lines)
  named_moves = subst (λ (xs : List ℕ). IsPermutation xs (named lines)) all_named (IsPermutation-map (λ (line : ℕ × ℕ). line.0) p.before lines p.moved)
    where
      all_named : named p.before ≡ ids
      all_named =
          let m = length-map p.before (λ (line : ℕ × ℕ). line.0) in
          ext_get_or 0 (named p.before) ids (m ∙ p.size) (λ k l.
          let n : k < length ids = omega (arith, l, m, p.size) in
          get_or-map (λ (line : ℕ × ℕ). line.0) p.before k (0, 0) 0 (omega (arith, n, p.size)) ∙ ap (λ (e : ℕ × ℕ). e.0) (p.each k (0, 0) n))

  -- picked by lines in another order, all are there, each as often
  pub picked_moves : {X : Type 0} (xs : List X) (d : X) → length xs ≡ length ids → IsPermutation xs (picked xs d lines)
  picked_moves {X} xs d size =
      subst (λ (ys : List X). IsPermutation ys (picked xs d lines)) all_picked (IsPermutation-map (λ (line : ℕ × ℕ). get_or xs line.1 d) p.before lines p.moved)
    where
      all_picked : picked xs d p.before ≡ xs
      all_picked =
          let m = length-map p.before (λ (line : ℕ × ℕ). get_or xs line.1 d) in
          ext_get_or d (picked xs d p.before) xs (m ∙ (p.size ∙ sym size)) (λ k l.
          let n : k < length ids = omega (arith, l, m, p.size) in
          get_or-map (λ (line : ℕ × ℕ). get_or xs line.1 d) p.before k (0, 0) d (omega (arith, n, p.size))
          ∙ ap (λ (e : ℕ × ℕ). get_or xs e.1 d) (p.each k (0, 0) n))

number : (specs : List Spec) → length (ids_of specs) ≡ length specs
number specs = length-map specs (λ (s : Spec). s.id)

module _ (specs : List Spec) (lines : List (ℕ × ℕ)) (p : ArePaired (ids_of specs) lines) (d : Spec) where
  pub specs_move : IsPermutation specs (picked specs d lines)
  specs_move = picked_moves p specs d (sym (number specs))

  abbrev f : ℕ × ℕ → Spec
  f line = get_or specs line.1 d

  within : (k : ℕ) → k < length lines → (get_or lines k (0, 0)).1 < length specs
  within k l = let h = (lines_fit p k (0, 0) l).0 in omega (arith, h, number specs)

  id_at : (k : ℕ) → k < length lines → (f (get_or lines k (0, 0))).id ≡ (get_or lines k (0, 0)).0
  id_at k l =
      sym (get_or-map (λ (s : Spec). s.id) specs (get_or lines k (0, 0)).1 d 0 (within k l)) ∙ sym (lines_fit p k (0, 0) l).1

  pub picked_ids : ids_of (picked specs d lines) ≡ named lines
  picked_ids =
      let m = length-map lines f in
      let n = length-map (picked specs d lines) (λ (s : Spec). s.id) in
      let o = length-map lines (λ (line : ℕ × ℕ). line.0) in
      ext_get_or 0 (ids_of (picked specs d lines)) (named lines) (n ∙ (m ∙ sym o)) (λ k l.
      let lk : k < length lines = omega (arith, l, m, n) in
      get_or-map (λ (s : Spec). s.id) (picked specs d lines) k d 0 (omega (arith, lk, m))
      ∙ (ap (λ (s : Spec). s.id) (get_or-map f lines k (0, 0) d lk)
      ∙ (id_at k lk ∙ sym (get_or-map (λ (line : ℕ × ℕ). line.0) lines k (0, 0) 0 lk))))

  -- what is resolved stays so
  pub picked_resolved : {ids : List ℕ} {resolved : List Spec} → AreResolvedSpecs ids specs resolved
      → AreResolvedSpecs ids (picked specs d lines) (picked resolved d lines)
  picked_resolved {ids} {resolved} h =
      let g = λ (line : ℕ × ℕ). get_or resolved line.1 d in
      record {
        size = length-map lines g ∙ sym (length-map lines f);
        each = λ k e l. (let lk : k < length lines = omega (arith, l, length-map lines f) in
            rw (get_or-map f lines k (0, 0) e lk, get_or-map g lines k (0, 0) e lk) (h.each (get_or lines k (0, 0)).1 d (within k lk)));
      }

-- lines that do not fall have identifiers that do not fall
pub named_rise : (lines : List (ℕ × ℕ)) → IsNonDecreasingBy (λ (line : ℕ × ℕ). line.0) lines → IsNonDecreasing (named lines)
named_rise lines rises i j d l m =
    let n : j < length lines = omega (arith, m, length-map lines (λ (line : ℕ × ℕ). line.0)) in
    let a = get_or-map (λ (line : ℕ × ℕ). line.0) lines i (0, 0) d (omega (arith, l, n)) in
    let b = get_or-map (λ (line : ℕ × ℕ). line.0) lines j (0, 0) d n in
    omega (arith, a, b, rises i j (0, 0) l n)
