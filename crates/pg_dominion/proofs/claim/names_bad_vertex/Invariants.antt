use Rattle.pg_dominion.proofs.Common.{◌≡◌, ◌||◌, drop, list_any, is_bad}
use Rattle.pg_dominion.proofs.Shape.{AreRightBefore}
use Rattle.pg_dominion.proofs.claim.names_bad_vertex.Given as goal

abbrev pub invariant-rows : goal.invariant-rows
invariant-rows l = record {
  checked : AreRightBefore l.game l.claim.player l.rows l.row-index l.least;
  place : l.place ≡ l.row-index;
  bad : list_any (λ r. is_bad l.game l.claim.player r.0) l.rows
      ≡ (l.bad || list_any (λ r. is_bad l.game l.claim.player r.0) (drop l.row-index l.rows));
}
