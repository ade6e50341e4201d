use Rattle.pg_game.proofs.Common.{rules}
use Rattle.pg_game.proofs.Common.{arith, ◌≡◌, ℕ, ◌<◌, ◌≤◌, List, length, All, Spec, AreNumbers, max_vertices}
use Rattle.pg_game.specs.private.Stored.{AreWithinLimits}
use Rattle.pg_game.proofs.Sound.{many_fault, some_of}
use Rattle.pg_game.proofs.SpecificationLists.{length_is, ids_is}
use Rattle.pg_game.proofs.game.ForwardGame.from_builder.Goals as goal

pub returns-then-len-gt-MAX_VERTICES-clause-fault : goal.returns-then-len-gt-MAX_VERTICES-clause-fault
returns-then-len-gt-MAX_VERTICES-clause-fault c =
    let n = length_is c.specs.invariant c.specs.view_is in
    many_fault c.args.specs (omega (arith, n, c.if-len-gt-MAX_VERTICES.true, c.len.ensures))

within_limits : (specs : List Spec) (n : ℕ) → All AreNumbers specs → length specs ≡ n → 0 < n → n ≤ max_vertices → AreWithinLimits specs
within_limits specs n numbers e some few = record { numbers = numbers; some = omega (arith, e, some); few = omega (arith, e, few) }

pub game_in_order-requires-clause-limits : goal.game_in_order-requires-clause-limits
game_in_order-requires-clause-limits c = search (
  rules,
  within_limits,
  some_of,
  length_is,
  c.requires,
  c.if-is_empty.ensures,
  c.specs.invariant,
  c.specs.view_is,
  c.specs.inside.ids.ok.0,
  c.if-len-gt-MAX_VERTICES.false,
  c.len.ensures,
)

pub game_by_sorting-requires : goal.game_by_sorting-requires
game_by_sorting-requires c = search (
  rules,
  within_limits,
  some_of,
  length_is,
  c.requires,
  c.if-is_empty.ensures,
  c.specs.invariant,
  c.specs.view_is,
  c.specs.inside.ids.ok.0,
  c.if-len-gt-MAX_VERTICES.false,
  c.len.ensures,
)

pub game_in_order-requires-clause-rising : goal.game_in_order-requires-clause-rising
game_in_order-requires-clause-rising c =
    rw (ids_is c.specs.invariant c.specs.view_is) (rw c.as_slice.ensures.value at (c.is_rising.ensures c.if-is_rising.true))
