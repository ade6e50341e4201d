use Rattle.pg_game.proofs.Common.{◌≡◌, ℕ, ◌<◌, slice_index}
use Rattle.pg_game.proofs.identifiers.are_own_places.Given as goal

abbrev pub invariant-ids : goal.invariant-ids
invariant-ids l = (k : ℕ) → k < l.v → slice_index l.ids k ≡ k
