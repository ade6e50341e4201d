use Rattle.pgboard_c.proofs.Common.{ℕ, ◌<◌, IsBadWinner}
use Rattle.pgboard_c.proofs.arrays.first_bad_winner.Given as goal

abbrev pub invariant-loop-v : goal.invariant-loop-v
invariant-loop-v l = (u : ℕ) → u < l.v → IsBadWinner l.winners u → ⊥
