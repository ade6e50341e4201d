-- Subgames without a named successor: a fact that a borrowed part can have.
use Rattle.std.specs.Prelude.{ℕ}
use Rattle.pg_game.specs.Graph.{Graph}
use Rattle.pg_game.specs.VertexSet.{VertexSet}
use Rattle.pg_finders.specs.Part.{IsDeadEnd}

-- no vertex of the set is a dead end
abbrev pub HasNoDeadEnd : Graph → VertexSet → Type 0
HasNoDeadEnd g U = (v : ℕ) → IsDeadEnd g U v → ⊥
