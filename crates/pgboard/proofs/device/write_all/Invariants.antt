use Rattle.pgboard.proofs.Common.{◌≡◌, ℕ, List, ◌++◌, length, Appends}
use Rattle.pgboard.proofs.device.write_all.Given as goal

-- what was taken is before the rest
abbrev pub invariant-rest : goal.invariant-rest
invariant-rest g l =
    ((prefix : List ℕ) × (l.bytes ≡ prefix ++ l.rest) × Appends (g.O.Sink.taken l.initial.out) (g.O.Sink.taken l.out) prefix)
    × (g.O.Sink.write_failures l.out ≡ g.O.Sink.write_failures l.initial.out)

abbrev pub decreases-rest : goal.decreases-rest
decreases-rest g l = length l.rest
