use Rattle.pg_finders.proofs.Common.{◌≡◌, ◌<◌, ◌≤◌, ℕ, slice_index, false}
use Rattle.pg_finders.specs.private.recursion.Partition.{free_of}
use Rattle.pg_finders.proofs.recursion.partition.Partition.first_free.Given as goal

abbrev pub invariant-places : goal.invariant-places
invariant-places l = (k : ℕ) → l.begin ≤ k → k < l.at → free_of l.free l.self (slice_index l.vertices k) ≡ false
