-- The parts of a game, as its vertices.
use Rattle.std.specs.Prelude.{ℕ, List, [], ◌∷◌}
use Rattle.pg_game.specs.declared.player.Player.{Player}
use Rattle.pg_game.specs.Graph.{Graph}

-- the vertices whose parts are at the same place of each list
abbrev pub graph_of : List ℕ → List ℕ → List Player → List (List ℕ) → Graph
graph_of [] ps os rows = []
graph_of (i ∷ ids) [] os rows = []
graph_of (i ∷ ids) (p ∷ ps) [] rows = []
graph_of (i ∷ ids) (p ∷ ps) (o ∷ os) [] = []
graph_of (i ∷ ids) (p ∷ ps) (o ∷ os) (ws ∷ rows) = record { id = i; priority = p; owner = o; successors = ws } ∷ graph_of ids ps os rows
