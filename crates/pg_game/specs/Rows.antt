-- Lists of numbers in compressed sparse rows.
use Rattle.std.specs.Prelude.{ℕ, List, [], ◌∷◌, slice_range}

-- the rows between each offset and the next
abbrev pub rows_of : List ℕ → List ℕ → List (List ℕ)
rows_of [] targets = []
rows_of (from ∷ []) targets = []
rows_of (from ∷ to ∷ offsets) targets = slice_range targets from to ∷ rows_of (to ∷ offsets) targets
