use Rattle.pg_workers.proofs.Common.{rules, ◌≡◌}
use Rattle.pg_dominion.specs.declared.claim.ClaimFault.TheVariants.{Shape, Cycle}
use Rattle.pg_board.specs.declared.journal.Refusal.TheVariants as refusal
use Rattle.pg_workers.proofs.known.RefusedSets.{row_inside, cycle_inside, lost_inside, open_inside}
use Rattle.pg_workers.proofs.known.known_fault.Goals as goal

pub id_in_row-requires : goal.id_in_row-requires
id_in_row-requires c =
    let is : c.args.refusal ≡ refusal.Claim (Shape c.in-Claim-Shape.row) = search rules in
    row_inside _ c.len-n.ensures.game _ _ _ (rw is at c.requires)

pub id-requires : goal.id-requires
id-requires c =
    let is : c.args.refusal ≡ refusal.Claim (Cycle c.in-Claim-Cycle.v) = search rules in
    cycle_inside _ c.len-n.ensures.game _ _ _ (rw is at c.requires)

pub id-requires-in-Lost : goal.id-requires-in-Lost
id-requires-in-Lost c = lost_inside _ c.len-n.ensures.game _ _ _ (rw c.in-Lost.is at c.requires)

pub id-requires-in-Open : goal.id-requires-in-Open
id-requires-in-Open c = (open_inside _ c.len-n.ensures.game _ _ _ _ (rw c.in-Open.is at c.requires)).0

pub id-requires-in-Open-2 : goal.id-requires-in-Open-2
id-requires-in-Open-2 c = (open_inside _ c.len-n.ensures.game _ _ _ _ (rw c.in-Open.is at c.requires)).1
