use Rattle.pg_game.proofs.Common.{arith}
use Rattle.pg_game.proofs.game.Parts.{length_is}
use Rattle.pg_game.proofs.game.ForwardGame.len.Goals as goal

pub returns-clause-number : goal.returns-clause-number
returns-clause-number c = omega (arith, length_is c.self.invariant.parts c.self.view_is)
