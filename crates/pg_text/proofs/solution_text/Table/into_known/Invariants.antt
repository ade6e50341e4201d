use Rattle.pg_text.proofs.Common.{◌≡◌, ℕ, ◌<◌, ◌≤◌, get_or, Some, None, if◌then◌else◌, Even, members}
use Rattle.std.proofs.Common.{vec_len}
use Rattle.std.specs.Vec.{vec_capacity}
use Rattle.pg_text.proofs.solution_text.Table.into_known.Given as goal

abbrev pub invariant-vertices : goal.invariant-vertices
invariant-vertices l =
    (vec_len l.rows ≡ l.v) × (l.n ≤ vec_capacity l.rows)
    × ((u : ℕ) → u < l.v → get_or l.rows.items u None ≡ (if members l.self.said u then Some (get_or l.self.rows.items u (Even, None)) else None))
