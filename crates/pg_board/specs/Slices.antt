-- A bound on the slices that a session still takes.
use Rattle.std.specs.Prelude.{ℕ, ◌≡◌, ◌+◌, ◌-◌, ◌<◌, ◌≤◌, length}
use Rattle.pg_game.specs.Graph.{Graph}
use Rattle.pg_game.specs.VertexSet.{all_vertices}
use Rattle.pg_finders.specs.Steps.{priority_count, steps}
use Rattle.pg_board.specs.Work.{total_of}
use Rattle.pg_board.specs.declared.advance.Stage.{Stage}
use Rattle.pg_board.specs.declared.advance.Stage.TheVariants as stage

-- the most steps that the recursion takes on a game
abbrev pub most_steps : Graph → ℕ
most_steps g = steps (priority_count g (all_vertices g)) (length g)

-- the most slices that remain on a game: one for each search, and one for each step of the recursion
abbrev pub slices_left : Graph → Stage → ℕ
slices_left g (stage.Search number) = (total_of 4 (length g) - number) + most_steps g
slices_left g (stage.Recursion r) = r.remaining

-- the most slices that a game takes
abbrev pub most_slices : Graph → ℕ
most_slices g = total_of 4 (length g) + most_steps g

-- the next slice is a search if more slices remain than one and the most steps; else it is one of the recursion
abbrev pub IsSearch : ℕ → ℕ → Type 0
IsSearch most slices = 1 + most < slices

-- what a slice leaves where a vertex of the game is still unsettled: a search leaves fewer slices and takes no step, and a slice of the
-- recursion uses all of its steps up
abbrev pub IsCharged : ℕ → ℕ → ℕ → ℕ → ℕ → Type 0
IsCharged most slices left old new = (IsSearch most slices → (left < slices) × (new ≡ old)) × (slices ≤ 1 + most → new ≡ 0)

-- the same where it settles the last vertex: then one of the recursion has taken a step
abbrev pub IsLastCharged : ℕ → ℕ → ℕ → ℕ → Type 0
IsLastCharged most slices old new = (IsSearch most slices → new ≡ old) × (slices ≤ 1 + most → new < old)
