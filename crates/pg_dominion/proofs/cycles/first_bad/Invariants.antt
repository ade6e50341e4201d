use Rattle.pg_dominion.proofs.Common.{ℕ, ◌<◌, IsOnBadCycle}
use Rattle.pg_dominion.proofs.cycles.first_bad.Given as goal

abbrev pub invariant-vertices : goal.invariant-vertices
invariant-vertices l = (u : ℕ) → u < l.v → IsOnBadCycle l.kept u → ⊥
