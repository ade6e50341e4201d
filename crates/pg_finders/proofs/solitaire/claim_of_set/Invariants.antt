use Rattle.pg_finders.proofs.Common.{◌≡◌, members, own_choices, rows_below, choices_by}
use Rattle.pg_finders.proofs.solitaire.claim_of_set.Given as goal

abbrev pub invariant-loop-v : goal.invariant-loop-v
invariant-loop-v l = l.rows.items ≡ rows_below (members l.set) (own_choices l.game l.player (choices_by l.next)) l.v
