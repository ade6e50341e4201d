use Rattle.pg_game.proofs.Common.{rules}
use Rattle.pg_game.proofs.Common.{arith, get_or_read}
use Rattle.std.proofs.Common.{◌/◌}
use Rattle.pg_game.proofs.mask.Bits.{opened, closed, below, inserted}
use Rattle.pg_game.proofs.mask.Mask.insert.Goals as goal

pub index_mut-requires : goal.index_mut-requires
index_mut-requires c =
    let l = below c.self.inside.words.items c.self.inside.len c.args.v c.self.view_is c.requires in
    omega (arith, l, (opened c.self.inside.words.items c.self.inside.len c.self.invariant).size, c.self.inside.words.ok.0)

pub invariant_of-self : goal.invariant_of-self
invariant_of-self c =
    let words = c.self.inside.words.items in
    let n = c.self.inside.len in
    let l = below words n c.args.v c.self.view_is c.requires in
    let fit = opened words n c.self.invariant in
    let read = get_or_read words (c.args.v / 64) _ (omega (arith, l, fit.size)) c.index_mut.ensures.value 0 in
    closed _ n (inserted words n c.args.v c.index_mut.result.now l fit read).0

pub returns : goal.returns
returns c = search (
  rules,
  below,
  opened,
  get_or_read,
  inserted,
  c.self.inside.words.items,
  c.self.inside.len,
  c.args.v,
  c.self.view_is,
  c.requires,
  c.self.invariant,
  c.index_mut.ensures.value,
  c.index_mut.result.now,
)
