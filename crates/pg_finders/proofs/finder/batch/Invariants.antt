use Rattle.pg_finders.proofs.Common.{◌≡◌, ℕ, ◌-◌, ◌<◌, length, slice_index, range_with_len}
use Rattle.pg_finders.proofs.finder.batch.Given as goal

abbrev pub invariant-loop-v : goal.invariant-loop-v
invariant-loop-v l = record {
  seeds : l.seeds.items ≡ range_with_len l.first (l.v - l.first);
  below : (k : ℕ) → k < length l.seeds.items → slice_index l.seeds.items k < l.n;
}
