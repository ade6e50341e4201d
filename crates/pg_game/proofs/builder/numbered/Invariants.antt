use Rattle.pg_game.proofs.Common.{◌≡◌, ℕ, ◌<◌, length, slice_index, slice_index_or}
use Rattle.pg_game.proofs.builder.numbered.Given as goal

abbrev pub invariant-lines : goal.invariant-lines
invariant-lines l = record {
  size : length l.lines.items ≡ l.v;
  each : (k : ℕ) (d : ℕ × ℕ) → k < l.v → slice_index_or l.lines.items k d ≡ (slice_index l.ids k, k);
}
