use Rattle.pg_text.proofs.Common.{length, ◌-◌, ℕ, ◌≤◌, List, is_letter, IsRun}
use Rattle.pg_text.proofs.lexer.letters_end.Given as goal

abbrev pub invariant-letters : goal.invariant-letters
invariant-letters l = (l.to ≤ length l.text) × (run : List ℕ) × IsRun is_letter l.text l.from l.to run

abbrev pub decreases-letters : goal.decreases-letters
decreases-letters l = length l.text - l.to
