use Rattle.pg_finders.proofs.Common.{◌≡◌, ◌<◌, ◌+◌, ℕ, false, length, take, listed, slice_index_or}
use Rattle.pg_finders.proofs.recursion.settled.place_all.Given as goal

abbrev pub invariant-loop-v : goal.invariant-loop-v
invariant-loop-v l = record {
  place : l.place ≡ l.from + l.v-index;
  len : length l.places.items ≡ length l.fn.places.items;
  here : (k : ℕ) → k < l.v-index → slice_index_or l.places.items (slice_index_or l.vertices k 0) 0 ≡ l.from + k;
  elsewhere : (v : ℕ) → listed (take l.v-index l.vertices) v ≡ false → slice_index_or l.places.items v 0 ≡ slice_index_or l.fn.places.items v 0;
}
