use Rattle.pgboard_c.proofs.Common.{ℕ, ◌<◌, IsBadKnownWinner}
use Rattle.pgboard_c.proofs.known.first_bad_known_winner.Given as goal

abbrev pub invariant-loop-v : goal.invariant-loop-v
invariant-loop-v l = (u : ℕ) → u < l.v → IsBadKnownWinner l.winners u → ⊥
