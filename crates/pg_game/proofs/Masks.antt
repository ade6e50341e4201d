-- The set that a mask has, after a write.
use Rattle.pg_game.proofs.Common.{◌≡◌, ℕ, ◌<◌, Bool, true, false, ◌||◌, List, length, set, get_or-set_same, get_or-set_other, rules, ◌==◌, eqb-true, eq-eqb}
use Rattle.pg_game.proofs.Common.{cases_Bool, cases_lt, get_or_past, or-false, In}
use Rattle.std.proofs.Common.{replicate}
use Rattle.std.proofs.Math.Bool.{or-true}
use Rattle.std.proofs.lemmas.List.{get_or-replicate, length-replicate}
use Rattle.pg_game.specs.VertexSet.{members}

pub members-set : (mask : List Bool) (v : ℕ) → v < length mask → (x : ℕ) → members (set mask v true) x ≡ (members mask x || (v == x))
members-set mask v l x = search (rules, cases_Bool, eqb-true, or-true, get_or-set_same, eq-eqb, or-false, get_or-set_other)

-- a member is below the length
pub member_below : (mask : List Bool) (v : ℕ) → In (members mask) v → v < length mask
member_below mask v i = search (rules, cases_lt, get_or_past)

pub none_mask : (n v : ℕ) → members (replicate n false) v ≡ false
none_mask n v = search (rules, cases_lt, get_or-replicate, get_or_past, length-replicate)
