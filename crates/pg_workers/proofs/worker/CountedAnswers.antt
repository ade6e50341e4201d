-- What a row counts of the answers to a worker's claims.
use Rattle.pg_workers.proofs.Common.{ℕ, ◌+◌, ◌^◌, ◌<◌, ◌≤◌, Result, IfOk, arith, common_steps, Refusal, ReportRow, AreCounted, noted}
use Rattle.pg_board.specs.Office.{IsRaised}

-- what a row has settled fits where the share's amount does
pub fits : (before after : ℕ) (r : ReportRow) (answer : Result ℕ Refusal) → IsRaised before after answer → r.settled ≤ before
    → IfOk answer (λ n. r.settled + n < 2 ^ 64)
fits before after r answer a le = grind arith

-- one claim more is answered, unless memory was refused
pub one_counted : (claims share before after : ℕ) (old r : ReportRow) (answer : Result ℕ Refusal) → AreCounted claims old r share before
    → IsRaised before after answer → AreCounted (claims + 1) old (noted r answer) share after
one_counted claims share before after old r answer c a = grind (arith, common_steps)
