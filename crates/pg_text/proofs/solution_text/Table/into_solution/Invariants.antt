use Rattle.pg_text.proofs.Common.{◌≡◌, ℕ, ◌<◌, true, members}
use Rattle.pg_text.proofs.solution_text.Table.into_solution.Given as goal

abbrev pub invariant-vertices : goal.invariant-vertices
invariant-vertices l = (u : ℕ) → u < l.v → members l.self.said u ≡ true
