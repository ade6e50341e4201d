use Rattle.pg_game.proofs.Common.{rules}
use Rattle.std.proofs.lemmas.Nat.Bits.{shr_and_one}
use Rattle.pg_game.proofs.Common.{arith, get_or_read}
use Rattle.pg_game.proofs.mask.Bits.{opened, below, get_or-bits_of}
use Rattle.pg_game.proofs.mask.Mask.has.Goals as goal

pub index-requires : goal.index-requires
index-requires c =
    let l = below c.self.inside.words.items c.self.inside.len c.args.v c.self.view_is c.requires in
    omega (arith, l, (opened c.self.inside.words.items c.self.inside.len c.self.invariant).size, c.self.inside.words.ok.0)

pub returns : goal.returns
returns c = search (
  rules,
  below,
  opened,
  get_or_read,
  shr_and_one,
  get_or-bits_of,
  c.self.inside.words.items,
  c.args.v,
  c.self.inside.len,
  c.self.view_is,
  c.requires,
  c.self.invariant,
  c.index.result.now,
  c.index.ensures,
)
