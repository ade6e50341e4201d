use Rattle.pg_dominion.proofs.Common.{take, AgreesWithGame}
use Rattle.pg_dominion.proofs.checked.Checked.first_foreign.Given as goal

abbrev pub invariant-rows : goal.invariant-rows
invariant-rows l = AgreesWithGame l.game l.player (take l.row-index l.row-items)
