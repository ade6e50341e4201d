use Rattle.pg_dominion.proofs.Common.{rules, sym, subst, ClaimRows, IsSound}
use Rattle.pg_dominion.proofs.CheckedRows.{checked}
use Rattle.pg_dominion.proofs.checked.Checked.of.Goals as goal

pub invariant_of-result : goal.invariant_of-result
invariant_of-result c =
    let claim = c.args.claim.now in
    let sound = subst (λ (xs : ClaimRows). IsSound c.args.game.now claim.player xs) (sym c.in_ok-rows.ensures.rows) c.requires in
    (rw c.new.ensures.player (checked c.args.game.now claim.player c.in_ok-rows.rows.items c.in_ok-rows.ensures.agree sound), search rules)
