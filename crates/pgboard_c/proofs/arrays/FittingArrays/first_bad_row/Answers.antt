use Rattle.pgboard_c.proofs.Common.{inl, inr, arith, below_more, IsBadRow, game_lists}
use Rattle.pgboard_c.proofs.arrays.FittingArrays.first_bad_row.Goals as goal

pub loop-v-preserved : goal.loop-v-preserved
loop-v-preserved c =
    below_more _ _ c.loop-v.invariant (λ (bad : IsBadRow (game_lists c.args.self.now.arrays.now) c.loop-v.v).
    elim bad.1 [ inl ends ↦ omega (arith, ends) | inr beyond ↦ omega (arith, beyond) ])

pub returns : goal.returns
returns c = λ v bad. c.loop-v.invariant v (omega (arith, bad.0, c.loop-v-test.false)) bad
