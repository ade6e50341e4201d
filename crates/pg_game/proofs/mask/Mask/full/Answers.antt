use Rattle.pg_game.proofs.Common.{ap}
use Rattle.pg_game.proofs.mask.Bits.{closed, AreFull, full_with_rest, full_words, fit-full, bits_of_full}
use Rattle.pg_game.proofs.mask.Mask.full.Goals as goal
use Rattle.pg_game.proofs.mask.Mask.full.Goals.{then-rest-gt0, else-rest-gt0}

full : (c : goal.Joined-rest-gt0) → AreFull c.if-rest-gt0.words.items c.args.n
full c =
    let words = c.if-rest-gt0.words.items in
    let before = c.in_ok-words.words.items in
    let ones = c.in_ok-words.ensures.items_if_clones_equal (λ _ e. e) in
    elim c.if-rest-gt0.branch as (λ _. AreFull words c.args.n) [
      | then-rest-gt0 w ↦
          full_with_rest words before c.args.n c.div_ceil.result c.div_ceil.ensures ones w.if-rest-gt0.true (ap (λ v. v.items) w.words-is)
      | else-rest-gt0 w ↦
          full_words words before c.args.n c.div_ceil.result c.div_ceil.ensures ones w.if-rest-gt0.false (ap (λ v. v.items) w.words-is)
    ]

pub invariant_of-result : goal.invariant_of-result
invariant_of-result c = closed c.if-rest-gt0.words.items c.args.n (fit-full c.ranges.n.fits (full c))

pub returns : goal.returns
returns c = bits_of_full (full c)
