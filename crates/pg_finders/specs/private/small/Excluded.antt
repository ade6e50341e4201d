-- What earlier searches have shown of vertices.
use Rattle.std.specs.Prelude.{ℕ, ◌≤◌, ◌<◌}
use Rattle.pg_game.specs.Graph.{HasEdge}
use Rattle.pg_game.specs.VertexSet.{In}
use Rattle.pg_dominion.specs.Claim.{ClaimRows, named}
use Rattle.pg_finders.specs.private.small.Search.{Search, IsSmallClaim}

-- from the first number on, below the second
abbrev pub IsBetween : ℕ → ℕ → ℕ → Type 0
IsBetween low high v = (low ≤ v) × (v < high)

-- no claim that the search looks for has the vertex
abbrev pub NoClaimHas : Search → ℕ → Type 0
NoClaimHas s v = (claim : ClaimRows) → IsSmallClaim s claim → In (named claim) v → ⊥

-- nor one between the numbers
abbrev pub NoClaimHasBetween : Search → ℕ → ℕ → Type 0
NoClaimHasBetween s low high = (v : ℕ) → IsBetween low high v → NoClaimHas s v

-- a successor of v in the subgame is between the numbers
abbrev pub LeadsBetween : Search → ℕ → ℕ → ℕ → Type 0
LeadsBetween s low high v = (w : ℕ) × HasEdge s.graph v w × In s.inside w × IsBetween low high w
