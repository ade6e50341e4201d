use Rattle.pg_finders.proofs.Common.{◌<◌, ℕ, length, slice_index}
use Rattle.pg_finders.specs.private.recursion.Partition.{IsPartition, RestsOn, HasOpened}
use Rattle.pg_finders.proofs.recursion.partition.Partition.open_before.Given as goal

abbrev pub invariant-loop-v : goal.invariant-loop-v
invariant-loop-v l = record {
  partition : IsPartition (length l.game) l.self;
  opened : HasOpened l.won l.fn.self l.fn.list.items l.self l.list.items;
  none : (k : ℕ) → k < l.v-index → RestsOn l.game l.won l.self (slice_index l.v-items k) l.to → ⊥;
}
