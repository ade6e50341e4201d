use Rattle.pgboard_c.proofs.Common.{◌≡◌, ℕ, ◌<◌, length, get_or, digit_of, winner_of, choice_of, choice_from}
use Rattle.pgboard_c.proofs.arrays.read_results.Given as goal

abbrev pub invariant-loop-v : goal.invariant-loop-v
invariant-loop-v l = record {
  size : length l.rows.items ≡ l.v;
  winners_are : (u : ℕ) → u < l.v → get_or l.winners u 0 ≡ digit_of (winner_of l.rows.items u);
  choices_are : (u : ℕ) → u < l.v → choice_from (get_or l.choices u 0) ≡ choice_of l.rows.items u;
}
