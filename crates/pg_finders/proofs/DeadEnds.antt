-- A set without a dead end is a subgame: a successor in it is found by a look at each successor.
use Rattle.pg_finders.proofs.Common.{◌≡◌, Bool, inl, inr, List, length, arith, cases_Bool, Graph, successors_of, members, member_below, IsSubgame}
use Rattle.std.proofs.Common.{lt-ltb}
use Rattle.std.specs.List.{list_any}
use Rattle.pg_finders.specs.private.DeadEnds.{HasNoDeadEnd}
use Rattle.pg_finders.proofs.Sets.{no_both}
use Rattle.pg_finders.proofs.loops.SingleDominions.{any_some, some_any}

pub subgame_of : (g : Graph) (mask : List Bool) → length mask ≡ length g → HasNoDeadEnd g (members mask) → IsSubgame g (members mask)
subgame_of g mask size none = record {
  vertices = λ v i. lt-ltb v (length g) (omega (arith, member_below mask v i, size));
  successor = λ v i. elim (cases_Bool (list_any (members mask) (successors_of g v))) [
    | inl some ↦ any_some (members mask) (successors_of g v) some
    | inr out ↦ absurd (none v (i, λ w e u. no_both (some_any (members mask) (successors_of g v) w e u) out))
  ];
}
