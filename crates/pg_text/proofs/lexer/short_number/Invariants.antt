use Rattle.pg_text.proofs.Common.{◌≡◌, ℕ, ◌+◌, ◌<◌, ◌^◌, List, is_digit, value_of, IsRun}
use Rattle.pg_text.proofs.lexer.short_number.Given as goal

abbrev pub invariant-digits : goal.invariant-digits
invariant-digits l = (l.value < 10 ^ l.k) × (run : List ℕ) × IsRun is_digit l.text l.from (l.from + l.k) run × (l.value ≡ value_of run)
