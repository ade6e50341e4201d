use Rattle.pgboard_c.proofs.Common.{ℕ, ◌<◌, IsBadOwner, game_lists}
use Rattle.pgboard_c.proofs.arrays.GameArrays.first_bad_owner.Given as goal

abbrev pub invariant-loop-v : goal.invariant-loop-v
invariant-loop-v l = (u : ℕ) → u < l.v → IsBadOwner (game_lists l.self) u → ⊥
