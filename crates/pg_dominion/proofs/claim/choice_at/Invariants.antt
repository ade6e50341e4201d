use Rattle.pg_dominion.proofs.Common.{◌≡◌, drop, named, choice_in}
use Rattle.pg_dominion.proofs.claim.choice_at.Given as goal

abbrev pub invariant-rows : goal.invariant-rows
invariant-rows l = (named l.rows l.v ≡ named (drop l.row-index l.rows) l.v) × (choice_in l.rows l.v ≡ choice_in (drop l.row-index l.rows) l.v)
