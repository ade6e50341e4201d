use Rattle.pg_finders.proofs.Common.{◌<◌, ◌≤◌, ℕ, length, slice_index}
use Rattle.pg_finders.specs.private.recursion.Partition.{IsPartition, RestsOn, HasOpened}
use Rattle.pg_finders.proofs.recursion.partition.Partition.open_before_listed.Given as goal

abbrev pub invariant-list : goal.invariant-list
invariant-list l = record {
  partition : IsPartition (length l.game) l.self;
  opened : HasOpened l.won l.fn.self l.fn.list.items l.self l.list.items;
  inside : l.next ≤ length l.list.items;
  none : (k : ℕ) → k < l.next → (v : ℕ) → RestsOn l.game l.won l.self v (slice_index l.list.items k) → ⊥;
}
