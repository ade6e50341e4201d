use Rattle.pg_game.proofs.Common.{rules}
use Rattle.pg_game.proofs.game.Parts.{length_is, id_is}
use Rattle.pg_game.proofs.game.ForwardGame.vertex_of.Goals as goal

pub returns-clause-found : goal.returns-clause-found
returns-clause-found c = search (rules, c.place_of.ensures.found, length_is, c.self.invariant.parts, id_is)

pub returns-clause-missing : goal.returns-clause-missing
returns-clause-missing c = search (rules, c.place_of.ensures.missing, length_is, c.self.invariant.parts, id_is)
