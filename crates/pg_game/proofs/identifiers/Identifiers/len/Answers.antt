use Rattle.pg_game.proofs.Common.{sym}
use Rattle.pg_game.proofs.identifiers.OwnPlaces.{own_length}
use Rattle.pg_game.proofs.identifiers.Identifiers.len.Goals as goal

pub returns-in-Own : goal.returns-in-Own
returns-in-Own c = let is = rw c.in-Own.is at c.self.view_is in sym (own_length is)
