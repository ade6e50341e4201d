use Rattle.pg_game.proofs.Common.{sym, ◌∙◌, arith}
use Rattle.pg_game.proofs.game.Parts.{length_is, id_is}
use Rattle.pg_game.proofs.game.ForwardGame.id.Goals as goal

pub id-requires : goal.id-requires
id-requires c = omega (arith, length_is c.self.invariant.parts c.self.view_is)

pub returns : goal.returns
returns c = c.id.ensures ∙ sym (id_is c.self.invariant.parts c.self.view_is c.args.v)
