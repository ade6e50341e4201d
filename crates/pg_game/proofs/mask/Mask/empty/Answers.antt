use Rattle.pg_game.proofs.Common.{rules}
use Rattle.pg_game.proofs.mask.Bits.{closed, fit-none, bits_of_none}
use Rattle.pg_game.proofs.mask.Mask.empty.Goals as goal

pub invariant_of-result : goal.invariant_of-result
invariant_of-result c = search (rules, closed, fit-none, c.in_ok-words.ensures.items_if_clones_equal, c.ranges.n.fits, c.div_ceil.ensures)

pub returns : goal.returns
returns c = bits_of_none c.in_ok-words.words.items c.div_ceil.result c.args.n (c.in_ok-words.ensures.items_if_clones_equal (λ _ e. e))
