use Rattle.pg_game.proofs.Common.{arith, ap, length, Graph}
use Rattle.pg_game.proofs.game.Game.predecessors.Goals as goal

pub returns : goal.returns
returns c =
    let n = ap (λ (g : Graph). length g) c.self.view_is in
    rw (c.row.ensures.row, ← c.self.view_is) (c.self.invariant.each c.args.v (omega (arith, n, c.requires)))
