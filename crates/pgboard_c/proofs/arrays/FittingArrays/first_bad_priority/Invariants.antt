use Rattle.pgboard_c.proofs.Common.{ℕ, ◌<◌, IsBadPriority, game_lists}
use Rattle.pgboard_c.proofs.arrays.FittingArrays.first_bad_priority.Given as goal

abbrev pub invariant-loop-v : goal.invariant-loop-v
invariant-loop-v l = (u : ℕ) → u < l.v → IsBadPriority (game_lists l.self.arrays.now) u → ⊥
