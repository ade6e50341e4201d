use Rattle.pg_game.proofs.Common.{rules}
use Rattle.pg_game.proofs.identifiers.OwnPlaces.{own_length, own_at}
use Rattle.pg_game.proofs.identifiers.Identifiers.id.Goals as goal

pub returns-in-Own : goal.returns-in-Own
returns-in-Own c = search (rules, own_length, own_at, c.in-Own.is, c.self.view_is, c.args.v)
