use Rattle.pg_finders.proofs.Common.{◌≡◌, members, own_choices, rows_below, loops, itself}
use Rattle.pg_finders.proofs.loops.find_loop.Given as goal

abbrev pub invariant-loop-v : goal.invariant-loop-v
invariant-loop-v l = l.rows.items ≡ rows_below (loops l.inside.graph (members l.inside.mask) l.fn.player) (own_choices l.inside.graph l.fn.player itself) l.v
