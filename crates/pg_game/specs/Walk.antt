-- Closed walks and their greatest priority.
use Rattle.std.specs.Prelude.{ℕ, ◌≡◌, max, List, [], ◌∷◌}
use Rattle.pg_game.specs.declared.player.Player.{Player}
use Rattle.pg_game.specs.Player.{of_parity}
use Rattle.pg_game.specs.Graph.{Graph, priority_of}

-- an edge from v to the first of the list, from each of the list to the next, and from the last to `end`
abbrev pub Walk : (ℕ → ℕ → Type 0) → ℕ → List ℕ → ℕ → Type 0
Walk Edge v [] end = Edge v end
Walk Edge v (w ∷ ws) end = Edge v w × Walk Edge w ws end

-- at least one vertex, each with an edge to the one after it, and the last with an edge to the first
abbrev pub ClosedWalk : (ℕ → ℕ → Type 0) → List ℕ → Type 0
ClosedWalk Edge [] = ⊥
ClosedWalk Edge (v ∷ vs) = Walk Edge v vs v

-- the greatest value of the function on the list
abbrev pub greatest : (ℕ → ℕ) → List ℕ → ℕ
greatest f [] = 0
greatest f (v ∷ vs) = max (f v) (greatest f vs)

abbrev pub greatest_priority : Graph → List ℕ → ℕ
greatest_priority g walk = greatest (priority_of g) walk

-- the greatest priority on the walk has the player's parity
abbrev pub IsGoodFor : Graph → Player → List ℕ → Type 0
IsGoodFor g p walk = of_parity (greatest_priority g walk) ≡ p
