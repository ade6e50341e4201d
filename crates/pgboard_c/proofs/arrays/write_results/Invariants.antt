use Rattle.pgboard_c.proofs.Common.{◌≡◌, ℕ, ◌<◌, length, get_or, digit_of, winner_of, choice_of, choice_from}
use Rattle.pgboard_c.proofs.arrays.write_results.Given as goal

abbrev pub invariant-loop-v : goal.invariant-loop-v
invariant-loop-v l = record {
  winners_size : length l.winners ≡ length l.solution.rows;
  choices_size : length l.choices ≡ length l.solution.rows;
  winners_are : (u : ℕ) → u < l.v → get_or l.winners u 0 ≡ digit_of (winner_of l.solution.rows u);
  choices_are : (u : ℕ) → u < l.v → choice_from (get_or l.choices u 0) ≡ choice_of l.solution.rows u;
}
