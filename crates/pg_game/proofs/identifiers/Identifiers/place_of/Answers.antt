use Rattle.pg_game.proofs.Common.{rules}
use Rattle.pg_game.proofs.identifiers.Places.{stood}
use Rattle.pg_game.proofs.identifiers.OwnPlaces.{own_length, own_at}
use Rattle.pg_game.proofs.identifiers.Identifiers.place_of.Goals as goal

pub returns-then-id-count-clause-found : goal.returns-then-id-count-clause-found
returns-then-id-count-clause-found c = search (rules, own_length, own_at, c.in-Own.is, c.self.view_is, c.args.id, c.if-id-count.true)

pub returns-else-id-count-clause-missing : goal.returns-else-id-count-clause-missing
returns-else-id-count-clause-missing c = search (rules, own_length, own_at, c.in-Own.is, c.self.view_is, c.in-Own.count)

pub returns-in-Some-clause-found : goal.returns-in-Some-clause-found
returns-in-Some-clause-found c = search (rules, stood, c.in-Listed.is, c.self.view_is, c.in-Listed.ids.keys, c.args.id, c.in-Some.v, c.in-Some.ensures.index)
