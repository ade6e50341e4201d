use Rattle.pg_dominion.proofs.Common.{rules, subst, Player}
use Rattle.pg_dominion.specs.Checked.{IsForeign}
use Rattle.pg_dominion.proofs.CheckedRows.{foreign_here}
use Rattle.pg_dominion.proofs.checked.Checked.first_foreign.Goals as goal

pub returns-then-not-agrees : goal.returns-then-not-agrees
returns-then-not-agrees c =
    let rows = c.args.self.now.rows in
    subst (λ (p : Player). IsForeign c.args.game.now p rows c.row-item.result.vertex) c.player-player.ensures
    (foreign_here c.args.game.now c.player-player.result rows c.rows-row-items.result.now c.rows-row-items.ensures.rows
    c.rows.row-index c.row-item.result c.rows-test.true c.row-item.is c.rows.invariant (λ a. let t = c.agrees.ensures.1 a in search rules))
