-- An unfinished attraction: the free vertices, the rows so far, and a cursor for each vertex.
use Rattle.std.specs.Prelude.{ℕ, ◌≡◌, Bool, false, List, length}
use Rattle.pg_game.specs.Graph.{Graph}
use Rattle.pg_game.specs.VertexSet.{In, members}
use Rattle.pg_dominion.specs.declared.cursors.Cursors.{Cursors}
use Rattle.pg_dominion.specs.Claim.{ClaimRows, named}

-- the rows have no vertex of the mask, and each vertex has a cursor
pub record IsFree (g : Graph) (mask : List Bool) (cursors : Cursors) (rows : ClaimRows) : Type 0 where
  pub size : length mask ≡ length g
  pub cursors_size : length cursors.places.items ≡ length g
  pub apart : (v : ℕ) → In (named rows) v → members mask v ≡ false
