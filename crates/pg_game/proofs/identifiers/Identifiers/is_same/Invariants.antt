use Rattle.pg_game.proofs.Common.{◌≡◌, ◌<◌, ℕ, slice_index}
use Rattle.pg_game.proofs.identifiers.Identifiers.is_same.Given as goal

abbrev pub invariant-ids : goal.invariant-ids
invariant-ids l = (w : ℕ) → w < l.v → slice_index l.self w ≡ slice_index l.other w
