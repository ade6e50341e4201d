-- The first successor that is not specified, one specification after another.
use Rattle.pg_game.proofs.Common.{rules}
use Rattle.pg_game.proofs.Common.{◌≡◌, ℕ, zero, suc, add-one, ◌+◌, ◌<◌, ◌≤◌, true, List, [], ◌∷◌, arith, Even, IsPermutation, get_or_default, length, drop}
use Rattle.pg_game.proofs.Common.{get_or, refl, sym, ◌∙◌, ap, nat_eq, Some, None, Contains}
use Rattle.pg_game.proofs.Common.{list_any, eqb-true, drop_more, Spec, IsSpecified, first_unspecified, first_unknown, ids_of, first_outside}
use Rattle.std.specs.Cmp.{nat_eq_equiv}
use Rattle.std.proofs.lemmas.Map.Views.{Contains-from_any, list_any-from_Contains}
use Rattle.std.proofs.lemmas.List.Sorted.{list_any-IsPermutation}
use Rattle.pg_game.proofs.identifiers.FirstRepeated.{eqb_flip}

specified_is : (specs : List Spec) (i : ℕ) → list_any (nat_eq i) (ids_of specs) ≡ IsSpecified specs i
specified_is [] i = refl
specified_is (s ∷ specs) i = rw (eqb_flip s.id i, specified_is specs i) refl

-- an identifier is specified exactly if it is among those of the specifications
pub from_specified : (specs : List Spec) (i : ℕ) → IsSpecified specs i ≡ true → Contains (ids_of specs) i
from_specified specs i t = Contains-from_any (λ x y. eqb-true x y) i (ids_of specs) (specified_is specs i ∙ t)

pub to_specified : (specs : List Spec) (i : ℕ) → Contains (ids_of specs) i → IsSpecified specs i ≡ true
to_specified specs i m = sym (specified_is specs i) ∙ list_any-from_Contains nat_eq_equiv i (ids_of specs) m

pub outside_is : (specs : List Spec) (identifiers xs : List ℕ) → IsPermutation (ids_of specs) identifiers
    → first_outside identifiers xs ≡ first_unspecified specs xs
outside_is specs identifiers [] moved = refl
outside_is specs identifiers (x ∷ xs) moved = search (rules, outside_is specs identifiers xs moved, list_any-IsPermutation, specified_is)

module _ (specs : List Spec) (k : ℕ) (s : Spec) (l : k < length specs) (is : s ≡ get_or specs k s) where
  next : drop k specs ≡ s ∷ drop (k + 1) specs
  next = drop_more specs k s l ∙ ap (λ (x : Spec). x ∷ drop (k + 1) specs) (sym is)

  pub unknown_here : (i : ℕ) → first_unspecified specs s.successors ≡ Some i → first_unknown specs (drop k specs) ≡ Some (s.id, i)
  unknown_here i e = rw (next, e) refl

  pub unknown_later : first_unspecified specs s.successors ≡ None → first_unknown specs (drop k specs) ≡ first_unknown specs (drop (k + 1) specs)
  unknown_later e = rw (next, e) refl

-- where no successor of the first specifications is unknown, the next are left
pub unknown_before : (specs : List Spec) (v : ℕ) → v ≤ length specs →
    ((u : ℕ) (d : Spec) → u < v → first_unspecified specs (get_or specs u d).successors ≡ None) → first_unknown specs specs ≡ first_unknown specs (drop v specs)
unknown_before specs zero l none = refl
unknown_before specs (suc v) l none =
    let d : Spec = record { id = 0; priority = 0; owner = Even; successors = [] } in
    let s = get_or specs v d in
    let e : s ≡ get_or specs v s = sym (get_or_default specs v s d (omega arith)) in
    unknown_before specs v (omega arith) (λ u d m. none u d (omega arith))
    ∙ (unknown_later specs v s (omega arith) e (none v d (omega arith)) ∙ ap (λ (k : ℕ). first_unknown specs (drop k specs)) (add-one v))
