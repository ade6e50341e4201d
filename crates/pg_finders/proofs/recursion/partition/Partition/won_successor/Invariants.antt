use Rattle.pg_finders.proofs.Common.{◌≡◌, ℕ, ◌<◌, false, get_or, listed, successors_of}
use Rattle.pg_finders.specs.private.recursion.Settled.{since}
use Rattle.pg_finders.proofs.recursion.partition.Partition.won_successor.Given as goal

abbrev pub invariant-loop-w : goal.invariant-loop-w
invariant-loop-w l = (k : ℕ) → k < l.w-index
    → listed (since l.target l.self.settled) (get_or (successors_of l.game l.v) k 0) ≡ false
