use Rattle.pg_dominion.proofs.Common.{◌≡◌, take, claim_rows, AgreesWithGame}
use Rattle.pg_dominion.proofs.checked.checked_rows.Given as goal

abbrev pub invariant-rows : goal.invariant-rows
invariant-rows l = record {
  agree : AgreesWithGame l.game l.claim.player l.rows.items;
  rows : claim_rows l.claim.player l.rows.items ≡ take l.row-index l.claimed;
}
