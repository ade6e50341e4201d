use Rattle.pg_game.proofs.Common.{◌≡◌, ◌<◌, ◌≤◌, ℕ, slice_index, false}
use Rattle.pg_game.specs.VertexSet.{members}
use Rattle.pg_game.proofs.mask.Mask.first_of.Given as goal

abbrev pub invariant-places : goal.invariant-places
invariant-places l = (k : ℕ) → l.begin ≤ k → k < l.at → members l.self (slice_index l.vertices k) ≡ false
