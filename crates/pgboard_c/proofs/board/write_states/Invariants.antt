use Rattle.pgboard_c.proofs.Common.{◌≡◌, ℕ, ◌<◌, length, get_or}
use Rattle.pg_board.specs.Journal.{state_of}
use Rattle.pgboard_c.specs.Board.{winner_number, chosen_number}
use Rattle.pgboard_c.proofs.board.write_states.Given as goal

abbrev pub invariant-loop-v : goal.invariant-loop-v
invariant-loop-v l = record {
  winners_size : length l.winners ≡ length l.session.board.graph;
  choices_size : length l.choices ≡ length l.session.board.graph;
  winners_are : (u : ℕ) → u < l.v → get_or l.winners u 0 ≡ winner_number (state_of l.session.board.journal u);
  choices_are : (u : ℕ) → u < l.v → get_or l.choices u 0 ≡ chosen_number (state_of l.session.board.journal u);
}
