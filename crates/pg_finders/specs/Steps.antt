-- A bound on how often a run of the recursion still begins a subgame or leaves one; the beginnings are the steps that a limit counts.
use Rattle.std.specs.Prelude.{ℕ, zero, suc, ◌+◌, ◌-◌, List, [], ◌∷◌, length, Bool, nat_eq, if◌then◌else◌}
use Rattle.std.specs.Set.{distinct_count}
use Rattle.pg_game.specs.Graph.{Graph, priority_of}
use Rattle.pg_game.specs.VertexSet.{VertexSet, members, how_many}
use Rattle.pg_finders.specs.declared.recursion.Frame.{Frame}
use Rattle.pg_finders.specs.declared.recursion.Solver.{Solver}

-- the priorities of the set's vertices below a number
abbrev pub priorities_below : Graph → VertexSet → ℕ → List ℕ
priorities_below g U zero = []
priorities_below g U (suc v) = if U v then priority_of g v ∷ priorities_below g U v else priorities_below g U v

-- the number of different priorities of the set's vertices
abbrev pub priority_count : Graph → VertexSet → ℕ
priority_count g U = distinct_count nat_eq (priorities_below g U (length g))

-- the greatest number of turns for a subgame of so many different priorities, and of n vertices
abbrev pub steps : ℕ → ℕ → ℕ
steps zero n = 1
steps (suc d) zero = 1
steps (suc d) (suc n) = 2 + (steps d n + steps (suc d) n)

-- one turn to leave a level, and then those of what is left of its subgame, which has fewer vertices
abbrev pub steps_after : ℕ → ℕ → ℕ
steps_after d zero = 1
steps_after d (suc n) = 1 + steps d n

-- the greatest number of turns that the waiting levels take, for a whole of d priorities and n vertices; each level has one priority less than the
-- one outside, since its vertices are less than the greatest ones there
abbrev pub steps_left : ℕ → ℕ → List Frame → ℕ
steps_left d n [] = 0
steps_left d n (f ∷ fs) = steps_after d (n - (f.even + f.odd + f.set_aside_from)) + steps_left (d - 1) n fs

-- the number of vertices that are settled or set aside
abbrev pub gone_from : Solver → ℕ
gone_from x = length x.partition.settled.even.items + length x.partition.settled.odd.items + length x.set_aside.items

-- the greatest number of turns that remain, for the whole of a mask
abbrev pub work : Graph → List Bool → Solver → ℕ
work g mask x = steps (priority_count g (members mask) - length x.frames.items) (how_many mask - gone_from x)
    + steps_left (priority_count g (members mask)) (how_many mask) x.frames.items
