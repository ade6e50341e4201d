use Rattle.pgboard_c.proofs.Common.{◌≡◌, ℕ, ◌<◌, length, get_or, known_at, known_from}
use Rattle.pgboard_c.proofs.known.read_known.Given as goal

abbrev pub invariant-loop-v : goal.invariant-loop-v
invariant-loop-v l = record {
  size : length l.rows.items ≡ l.v;
  each : (u : ℕ) → u < l.v → known_at l.rows.items u ≡ known_from (get_or l.winners u 0) (get_or l.choices u 0);
}
