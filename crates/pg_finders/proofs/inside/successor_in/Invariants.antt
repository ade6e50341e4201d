use Rattle.pg_finders.proofs.Common.{◌≡◌, ℕ, ◌<◌, false, get_or, successors_of, members}
use Rattle.pg_finders.proofs.inside.successor_in.Given as goal

abbrev pub invariant-loop-w : goal.invariant-loop-w
invariant-loop-w l = (k : ℕ) → k < l.w-index → members l.inside (get_or (successors_of l.game l.v) k 0) ≡ false
