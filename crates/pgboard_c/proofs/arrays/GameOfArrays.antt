-- What arrays say, vertex by vertex.
use Rattle.pgboard_c.proofs.Common.{rules, ◌≡◌, ◌∙◌, ℕ, zero, suc, ◌≤◌, List, [], ◌∷◌, length, sym, ap, subst, arith, All, Spec}
use Rattle.pgboard_c.proofs.Common.{AreNumbers, NoneHas, GameLists, IsBadPriority, array_spec}
use Rattle.std.specs.Prelude.{map, ◌+◌, ◌++◌}
use Rattle.std.specs.List.{range_with_len}
use Rattle.std.proofs.lemmas.List.Elements.{All-nil, All-push}
use Rattle.std.proofs.lemmas.List.FromFn.{length-map-range_with_len, map-range_with_len_more}

-- the vertices of the arrays below a number, in order
abbrev pub specs_below : GameLists → ℕ → List Spec
specs_below a v = map (array_spec a) (range_with_len 0 v)

pub length_specs : (a : GameLists) (v : ℕ) → length (specs_below a v) ≡ v
length_specs a v = length-map-range_with_len (array_spec a) 0 v

pub specs_more : (a : GameLists) (v : ℕ) → specs_below a (v + 1) ≡ specs_below a v ++ array_spec a v ∷ []
specs_more a v = map-range_with_len_more (array_spec a) 0 v v (omega arith)

-- identifiers and priorities are within the limit
pub numbers_below : (a : GameLists) → NoneHas (IsBadPriority a) → (v : ℕ) → v ≤ length a.owners → v ≤ 2147483648
    → All AreNumbers (specs_below a v)
numbers_below a good zero le few = All-nil AreNumbers
numbers_below a good (suc v) le few =
    let all : All AreNumbers (specs_below a v ++ array_spec a v ∷ []) = All-push AreNumbers (specs_below a v) (array_spec a v)
    (numbers_below a good v (omega (arith, le)) (omega (arith, few))) (search rules) in
    let next : v + 1 ≡ suc v = omega arith in
    subst (λ (specs : List Spec). All AreNumbers specs) (sym (specs_more a v) ∙ ap (specs_below a) next) all
