use Rattle.pg_text.proofs.Common.{length, ◌-◌, ℕ, ◌≤◌, List, is_digit, value_of, IsRun}
use Rattle.pg_text.proofs.lexer.ByteRuns.{Counts}
use Rattle.pg_text.proofs.lexer.long_number.Given as goal

abbrev pub invariant-digits : goal.invariant-digits
invariant-digits l = (l.to ≤ length l.text) × (run : List ℕ) × IsRun is_digit l.text l.from l.to run × Counts l.value (value_of run)

abbrev pub decreases-digits : goal.decreases-digits
decreases-digits l = length l.text - l.to
