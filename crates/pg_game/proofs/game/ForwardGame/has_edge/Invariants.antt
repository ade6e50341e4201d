use Rattle.pg_game.proofs.Common.{◌≡◌, ℕ, ◌<◌, slice_index}
use Rattle.pg_game.proofs.game.ForwardGame.has_edge.Given as goal

abbrev pub invariant-loop-x : goal.invariant-loop-x
invariant-loop-x l = (k : ℕ) → k < l.x-index → slice_index l.x-items k ≡ l.w → ⊥
