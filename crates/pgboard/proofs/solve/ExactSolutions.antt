-- What an exact solution gives to the writer of its winners.
use Rattle.pgboard.proofs.Common.{◌≡◌, ℕ, List, Even, Graph, SolutionRows, IsExactSolution, written_winners}
use Rattle.pg_text.specs.Winners.{IsWinnersText}

pub winners_text : (g : Graph) (rows : SolutionRows) (text : List ℕ) → IsExactSolution g rows → text ≡ written_winners g rows → IsWinnersText g text
winners_text g rows text exact is = record { rows = rows; size = exact.solution.size; winners = λ v lt. exact.winners Even v lt; text_is = is }
