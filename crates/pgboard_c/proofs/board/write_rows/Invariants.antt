use Rattle.pgboard_c.proofs.Common.{◌≡◌, ℕ, ◌<◌, ◌≤◌, length, get_or, Some}
use Rattle.std.specs.Prelude.{Option, slice_get}
use Rattle.pgboard_c.specs.Arrays.{choice_number}
use Rattle.pgboard_c.proofs.board.write_rows.Given as goal

abbrev pub invariant-loop-i : goal.invariant-loop-i
invariant-loop-i l = record {
  vertices_size : length l.vertices ≡ length l.initial.vertices;
  choices_size : length l.choices ≡ length l.initial.choices;
  vertices_are : (k : ℕ) (r : ℕ × Option ℕ) → k < l.i → slice_get l.rows k ≡ Some r → get_or l.vertices k 0 ≡ r.0;
  choices_are : (k : ℕ) (r : ℕ × Option ℕ) → k < l.i → slice_get l.rows k ≡ Some r → get_or l.choices k 0 ≡ choice_number r.1;
  vertices_kept : (k : ℕ) → l.i ≤ k → get_or l.vertices k 0 ≡ get_or l.initial.vertices k 0;
  choices_kept : (k : ℕ) → l.i ≤ k → get_or l.choices k 0 ≡ get_or l.initial.choices k 0;
}
