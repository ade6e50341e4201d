use Rattle.pg_game.proofs.Common.{rules}
use Rattle.pg_game.proofs.Common.{◌+◌, ◌≤◌, sym, arith}
use Rattle.std.proofs.Common.{◌*◌}
use Rattle.pg_game.specs.Bits.{bits_of}
use Rattle.pg_game.specs.VertexSet.{how_many}
use Rattle.pg_game.proofs.mask.Bits.{opened, none_counted, word_more, at_most, all_counted}
use Rattle.pg_game.proofs.mask.Mask.count.Goals as goal

pub words-init : goal.words-init
words-init c = sym (none_counted c.as_slice-word-items.result.now)

pub overflow_add-count : goal.overflow_add-count
overflow_add-count c =
    let words = c.as_slice-word-items.result.now in
    let i = c.words.word-index in
    let fit = opened c.self.inside.words.items c.self.inside.len c.self.invariant in
    let all : how_many (bits_of words (64 * (i + 1))) ≤ c.self.inside.len = rw c.as_slice-word-items.ensures.value
    (at_most c.self.inside.words.items c.self.inside.len (64 * (i + 1)) fit) in
    omega (arith, all, word_more words i (c.type_inv.word-items i).fits, c.words.invariant, fit.short)

pub words-preserved : goal.words-preserved
words-preserved c = search (rules, word_more, c.as_slice-word-items.result.now, c.words.word-index, c.type_inv.word-items, c.words.invariant)

pub returns : goal.returns
returns c = search (
  rules,
  all_counted,
  opened,
  c.self.inside.words.items,
  c.as_slice-word-items.ensures.value,
  c.words.word-index,
  c.words.invariant,
  c.as_slice-word-items.result.now,
  c.self.inside.len,
  c.self.invariant,
  c.self.view_is,
)
