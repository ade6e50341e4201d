use Rattle.pg_game.proofs.Common.{◌<◌, length, sym, ◌∙◌, arith, get_or_read, Even}
use Rattle.pg_game.proofs.game.Parts.{length_is, owner_is}
use Rattle.pg_game.proofs.game.ForwardGame.owner.Goals as goal

pub index-requires : goal.index-requires
index-requires c = omega (arith, length_is c.self.invariant.parts c.self.view_is, c.self.invariant.parts.owners)

pub returns : goal.returns
returns c =
    let l : c.args.v < length c.self.inside.owners.items = omega (arith, length_is c.self.invariant.parts c.self.view_is, c.self.invariant.parts.owners) in
    get_or_read c.self.inside.owners.items c.args.v _ l c.index.ensures Even ∙ sym (owner_is c.self.invariant.parts c.self.view_is c.args.v)
