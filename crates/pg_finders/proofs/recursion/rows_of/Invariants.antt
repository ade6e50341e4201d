use Rattle.pg_finders.proofs.Common.{◌≡◌, members, Even, Odd, won_inside, winners_of, choices_of, own_choices, rows_below}
use Rattle.pg_finders.proofs.recursion.rows_of.Given as goal

abbrev pub invariant-loop-v : goal.invariant-loop-v
invariant-loop-v l = record {
  even : l.even.items ≡ rows_below (won_inside (members l.view.mask.now) (winners_of l.plan) Even) (own_choices l.view.game.now Even (choices_of l.plan)) l.v;
  odd : l.odd.items ≡ rows_below (won_inside (members l.view.mask.now) (winners_of l.plan) Odd) (own_choices l.view.game.now Odd (choices_of l.plan)) l.v;
}
