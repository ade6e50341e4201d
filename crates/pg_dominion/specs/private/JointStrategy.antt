-- A solution's winners and choices as kept edges.
use Rattle.std.specs.Prelude.{ℕ, ◌≢◌}
use Rattle.pg_game.specs.VertexSet.{all_vertices}
use Rattle.pg_text.specs.Solution.{SolutionRows, winner_of, choice_of}
use Rattle.pg_dominion.specs.declared.strategy_graph.StrategyGraph.{StrategyGraph}
use Rattle.pg_dominion.specs.KeptEdges.{Edge, IsStrategy}

-- the kept edges are those of each vertex's winner
abbrev pub IsJointStrategy : StrategyGraph → SolutionRows → Type 0
IsJointStrategy k rows = IsStrategy k (all_vertices k.game.now) (winner_of rows) (choice_of rows)

-- an edge from v leads to the other winner's vertices
abbrev pub LeavesTo : StrategyGraph → SolutionRows → ℕ → ℕ → Type 0
LeavesTo k rows v w = Edge k v w × (winner_of rows w ≢ winner_of rows v)
