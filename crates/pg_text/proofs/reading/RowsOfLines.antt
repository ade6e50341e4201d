-- The rows of a solution text, from its lines.
use Rattle.pg_text.proofs.Common.{ℕ, List, Result, MatchResult, IfOk, Graph, SolutionTextFault, Solution, AreLinesOf, SpellsSolution, IsSolutionTextOf}
use Rattle.std.specs.Prelude.{Ok, Err}
use Rattle.pg_text.specs.SolutionText as solutions

-- lines that the text spells, and that say the rows
pub rows_read : (g : Graph) (text : List ℕ) (lines : List solutions.WrittenSolutionLine) (F : SolutionTextFault → Type 0)
    (r : Result Solution SolutionTextFault) → SpellsSolution text lines → MatchResult r (λ s. AreLinesOf g lines s.rows) F
    → IfOk r (λ s. IsSolutionTextOf g text s.rows)
rows_read g text lines F (Ok s) spelled says = record { lines = lines; spelled = spelled; says = says }
rows_read g text lines F (Err e) spelled says = tt
