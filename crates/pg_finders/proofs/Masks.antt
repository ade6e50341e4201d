-- Masks after a write, and how many vertices they have.
use Rattle.pg_finders.proofs.Common.{◌≡◌, ℕ, suc, ◌+◌, ◌<◌, Bool, true, false, ◌&&◌, not, ◌⊎◌, List, [], ◌∷◌, length, refl, arith, length-set, get_or-set_same}
use Rattle.pg_finders.proofs.Common.{get_or-set_other, rules, ◌==◌, slice_set, eqb-true, eq-eqb, cases_Bool, cases_lt, and-true, In, members, how_many, member_below}
use Rattle.std.proofs.Common.{cond}
use Rattle.std.proofs.Math.Bool.{and-false}
use Rattle.std.proofs.lemmas.List.{get_or_past}
use Rattle.std.proofs.lemmas.List.Sums.{sum_by-set}
use Rattle.pg_finders.proofs.Sets.{no_both}

pub order : (v i : ℕ) → (v < i) ⊎ (v ≡ i) ⊎ (i < v)
order v i = grind arith

-- a vertex is taken out of a mask
pub members-unset : (mask : List Bool) (v : ℕ) → (w : ℕ) → members (slice_set mask v false) w ≡ (members mask w && not (v == w))
members-unset mask v w =
    search (rules, cases_Bool, and-false, eqb-true, and-true, get_or-set_other, no_both, eq-eqb, cases_lt, get_or-set_same, get_or_past, length-set)

-- what an entry adds to the number of members
abbrev pub counted : Bool → ℕ
counted b = cond b 1 0

pub how_many-set : (mask : List Bool) (v : ℕ) (b : Bool) → v < length mask
    → how_many (slice_set mask v b) + counted (members mask v) ≡ how_many mask + counted b
how_many-set mask v b l = sum_by-set counted mask v b false l

pub how_many-unset : (mask : List Bool) (v : ℕ) → In (members mask) v → how_many (slice_set mask v false) + 1 ≡ how_many mask
how_many-unset mask v i =
    let one : counted (members mask v) ≡ 1 = rw i refl in
    omega (arith, one, how_many-set mask v false (member_below mask v i))

-- a mask that has vertices has one
pub some_member : (mask : List Bool) → 0 < how_many mask → (v : ℕ) × In (members mask) v
some_member [] l = absurd (omega (arith, l))
some_member (true ∷ bits) l = (0, refl)
some_member (false ∷ bits) l = (let h = some_member bits l in (suc h.0, h.1))
