use Rattle.pg_finders.proofs.Common.{◌≡◌, ℕ, ◌<◌, get_or, successors_of, In, members}
use Rattle.pg_finders.proofs.loops.has_no_other_successor.Given as goal

abbrev pub invariant-loop-w : goal.invariant-loop-w
invariant-loop-w l = (k : ℕ) → k < l.w-index → In (members l.mask) (get_or (successors_of l.inside.graph l.v) k 0) → get_or (successors_of l.inside.graph l.v) k 0 ≡ l.v
