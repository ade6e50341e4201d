-- The choices of a solution are below each number that is no less than the number of vertices, and come back from their numbers.
use Rattle.std.specs.Prelude.{Some, None}
use Rattle.pgboard_c.specs.Arrays.{choice_from, choice_number, no_choice}
use Rattle.pgboard_c.proofs.Common.{rules, ◌≡◌, ℕ, ◌<◌, ◌≤◌, length, Option, IfSome, Graph, IsGame, SolutionRows, IsExactSolution, choice_of, choice_below}

wider : (m n : ℕ) (o : Option ℕ) → m ≤ n → IfSome o (λ w. w < m) → IfSome o (λ w. w < n)
wider m n o le h = search rules

pub choices_below : (g : Graph) (rows : SolutionRows) (n : ℕ) → IsGame g → IsExactSolution g rows → length g ≤ n → (v : ℕ) → v < length rows
    → IfSome (choice_of rows v) (λ w. w < n)
choices_below g rows n game exact few v lt = wider (length g) n (choice_of rows v) few (choice_below g rows game exact v lt)

pub choice_again : (choice : Option ℕ) → IfSome choice (λ w. w < no_choice) → choice_from (choice_number choice) ≡ choice
choice_again None below = search rules
choice_again (Some w) below = search rules
