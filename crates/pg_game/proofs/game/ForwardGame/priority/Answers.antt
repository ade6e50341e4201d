use Rattle.pg_game.proofs.Common.{◌<◌, length, sym, ◌∙◌, arith, get_or_read}
use Rattle.pg_game.proofs.game.Parts.{length_is, priority_is}
use Rattle.pg_game.proofs.game.ForwardGame.priority.Goals as goal

pub index-requires : goal.index-requires
index-requires c = omega (arith, length_is c.self.invariant.parts c.self.view_is, c.self.invariant.parts.priorities)

pub returns : goal.returns
returns c =
    let l : c.args.v < length c.self.inside.priorities.items =
    omega (arith, length_is c.self.invariant.parts c.self.view_is, c.self.invariant.parts.priorities) in
    get_or_read c.self.inside.priorities.items c.args.v _ l c.index.ensures 0 ∙ sym (priority_is c.self.invariant.parts c.self.view_is c.args.v)
