use Rattle.pg_game.proofs.Common.{rules}
use Rattle.pg_game.proofs.mask.Bits.{opened, member_in, no_member}
use Rattle.pg_game.proofs.mask.Mask.is_empty.Goals as goal

pub returns-then-word-ne0-clause-not_empty : goal.returns-then-word-ne0-clause-not_empty
returns-then-word-ne0-clause-not_empty c = search (
  rules,
  member_in,
  opened,
  c.words.word-index,
  c.as_slice-word-items.ensures.value,
  c.self.inside.words.items,
  c.if-word-ne0.true,
  c.words.invariant.fit,
  c.self.view_is,
  c.self.inside.len,
  c.self.invariant,
)

pub returns-clause-empty : goal.returns-clause-empty
returns-clause-empty c = search (
  rules,
  no_member,
  c.as_slice-word-items.ensures.value,
  c.self.view_is,
  c.self.inside.words.items,
  c.self.inside.len,
  c.words.invariant.zeros,
)
