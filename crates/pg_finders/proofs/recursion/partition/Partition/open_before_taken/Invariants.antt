use Rattle.pg_finders.proofs.Common.{◌≤◌, ◌<◌, ℕ, length, slice_index, settled_of}
use Rattle.pg_finders.specs.private.recursion.Partition.{IsPartition, RestsOn, HasOpened}
use Rattle.pg_finders.proofs.recursion.partition.Partition.open_before_taken.Given as goal

abbrev pub invariant-loop-place : goal.invariant-loop-place
invariant-loop-place l = record {
  partition : IsPartition (length l.game) l.self;
  opened : HasOpened l.won l.fn.self l.fn.list.items l.self l.list.items;
  none : (k : ℕ) → l.taken.from ≤ k → k < l.place → (v : ℕ)
      → RestsOn l.game l.won l.self v (slice_index (settled_of l.fn.self.settled l.taken.player) k) → ⊥;
}
