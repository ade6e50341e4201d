-- Unfinished claims that can have one vertex more and no other.
use Rattle.std.specs.Prelude.{ℕ, ◌≡◌, ◌≢◌, ◌⊎◌, false}
use Rattle.pg_game.specs.Graph.{HasEdge, owner_of}
use Rattle.pg_game.specs.VertexSet.{In}
use Rattle.pg_dominion.specs.Claim.{ClaimRows, named}
use Rattle.pg_finders.specs.private.small.Search.{Search}
use Rattle.pg_finders.specs.private.small.Excluded.{IsBetween}

-- w is neither v nor among the rows
abbrev pub IsElsewhere : ClaimRows → ℕ → ℕ → Type 0
IsElsewhere rows v w = (w ≢ v) × (named rows w ≡ false)

-- v is not among the rows, and a play leaves it at once: if the player owns it, by each edge, and if the opponent does, by some edge
pub record IsLeftAtOnce (s : Search) (rows : ClaimRows) (v : ℕ) : Type 0 where
  pub fresh : named rows v ≡ false
  pub own : owner_of s.graph v ≡ s.player → (w : ℕ) → HasEdge s.graph v w → In s.inside w → IsElsewhere rows v w
  pub other : owner_of s.graph v ≢ s.player → (w : ℕ) × HasEdge s.graph v w × In s.inside w × IsElsewhere rows v w

-- a play leaves v at once, or v is between the numbers
abbrev pub IsRefused : Search → ℕ → ℕ → ClaimRows → ℕ → Type 0
IsRefused s low high rows v = IsBetween low high v ⊎ IsLeftAtOnce s rows v
