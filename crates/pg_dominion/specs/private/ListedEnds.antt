-- The invariant of the search along a claim's rows: no kept edge leads back to its start.
use Rattle.std.specs.Prelude.{ℕ, ◌≢◌, ◌≤◌, ◌<◌, List, length, slice_index, Contains}
use Rattle.pg_game.specs.declared.player.Player.{Player}
use Rattle.pg_game.specs.Graph.{Graph, priority_of}
use Rattle.pg_game.specs.VertexSet.{In}
use Rattle.pg_game.specs.Kept.{KeptEdge}
use Rattle.pg_dominion.specs.Claim.{ClaimRows, named, choice_in}

-- each kept edge from v that ends in the claim, at a vertex of at most the start's priority, ends in the list and not at the start
abbrev pub LeadsToListed : Graph → Player → ClaimRows → ℕ → List ℕ → ℕ → Type 0
LeadsToListed g p rows start list v =
    (w : ℕ) → KeptEdge g p (named rows) (choice_in rows) v w → In (named rows) w → priority_of g w ≤ priority_of g start → (w ≢ start) × Contains list w

-- the vertices of the list are those of the claim
abbrev pub AreNamed : ClaimRows → List ℕ → Type 0
AreNamed rows list = (i : ℕ) → i < length list → In (named rows) (slice_index list i)
