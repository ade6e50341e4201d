use Rattle.pg_game.proofs.Common.{◌≡◌, ◌<◌, ◌^◌, ℕ, slice_index}
use Rattle.pg_game.proofs.mask.Mask.is_empty.Given as goal

abbrev pub invariant-words : goal.invariant-words
invariant-words l = record {
  zeros : (i : ℕ) → i < l.word-index → slice_index l.word-items i ≡ 0;
  fit : (i : ℕ) → slice_index l.word-items i < 2 ^ 64;
}
