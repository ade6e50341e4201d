-- A search over what earlier searches have shown.
use Rattle.std.specs.Prelude.{ℕ, ◌<◌}
use Rattle.pg_dominion.specs.declared.cycles.Labels.{Labels}
use Rattle.pg_dominion.specs.declared.cycles.WalkSearch.{WalkSearch}
use Rattle.pg_dominion.specs.private.KeptEdges.{AreReached, IsSpread}

-- a search under a priority, from a vertex of this group, or 0
pub record HasReached (l : Labels) (top own : ℕ) (s : WalkSearch) : Type 0 where
  pub least : 0 < s.first_repeated
  pub state : AreReached l.kept.now l.levels.items l.groups.items top own s.places.items s.queue.items

-- it has followed the edges from place i of the queue
abbrev pub IsSpreadAt : Labels → ℕ → ℕ → WalkSearch → ℕ → Type 0
IsSpreadAt l top own s i = IsSpread l.kept.now l.levels.items l.groups.items top own s.first_repeated s.places.items s.queue.items i
