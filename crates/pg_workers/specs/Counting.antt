-- The number of times that a number occurs in lists.
use Rattle.std.specs.Prelude.{ℕ, ◌≡◌, ◌==◌, min, if◌then◌else◌, nat_lt, List, count_by, sum_by}

-- how often j occurs in the list
abbrev pub times : ℕ → List ℕ → ℕ
times j numbers = count_by (λ n. n == j) numbers

-- 1 if j is below n, else 0
abbrev pub once_below : ℕ → ℕ → ℕ
once_below j n = if nat_lt j n then 1 else 0

-- each number below the lesser of the two occurs once in one list, and no other number occurs in any
abbrev pub AreFair : {X : Type 0} → ℕ → ℕ → (X → List ℕ) → List X → Type 0
AreFair total word numbers xs = (j : ℕ) → sum_by (λ x. times j (numbers x)) xs ≡ once_below j (min total word)
