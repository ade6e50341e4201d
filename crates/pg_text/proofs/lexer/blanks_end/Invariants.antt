use Rattle.pg_text.proofs.Common.{length, ◌-◌, ℕ, ◌≤◌, List, is_blank, IsRun}
use Rattle.pg_text.proofs.lexer.blanks_end.Given as goal

abbrev pub invariant-blanks : goal.invariant-blanks
invariant-blanks l = (l.to ≤ length l.text) × (run : List ℕ) × IsRun is_blank l.text l.from l.to run

abbrev pub decreases-blanks : goal.decreases-blanks
decreases-blanks l = length l.text - l.to
