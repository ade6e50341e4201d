-- Rows that attract: each leads to the target or to earlier rows.
use Rattle.std.specs.Prelude.{ℕ, ◌≡◌, ◌≢◌, ◌↔◌, false, ◌∷◌, ◌++◌, Option, Some, None}
use Rattle.pg_game.specs.declared.player.Player.{Player}
use Rattle.pg_game.specs.Graph.{Graph, HasEdge, owner_of}
use Rattle.pg_game.specs.VertexSet.{VertexSet, In, union}
use Rattle.pg_game.specs.Attractor.{Attractor}
use Rattle.pg_dominion.specs.Claim.{ClaimRows, named}

-- the row has a vertex of U outside S: the player's with a choice in S, or the opponent's with all its successors in U in S
pub record IsAttractedRow (g : Graph) (p : Player) (U S : VertexSet) (r : ℕ × Option ℕ) : Type 0 where
  pub inside : In U r.0
  pub fresh : S r.0 ≡ false
  pub own : owner_of g r.0 ≡ p → (w : ℕ) × (r.1 ≡ Some w) × HasEdge g r.0 w × In S w
  pub forced : owner_of g r.0 ≢ p → (r.1 ≡ None) × ((w : ℕ) → HasEdge g r.0 w → In U w → In S w)

-- each row leads to the set or to earlier rows
abbrev pub AttractInTurn : Graph → Player → VertexSet → VertexSet → ClaimRows → Type 0
AttractInTurn g p U S rows = (before after : ClaimRows) (r : ℕ × Option ℕ) → rows ≡ before ++ r ∷ after → IsAttractedRow g p U (union S (named before)) r

-- the rows are the attractor without the target, each vertex once and after the rows that attract it
pub record IsAttraction (g : Graph) (p : Player) (U T : VertexSet) (rows : ClaimRows) : Type 0 where
  pub turns : AttractInTurn g p U T rows
  pub exact : (v : ℕ) → In (union T (named rows)) v ↔ Attractor g p U T v
