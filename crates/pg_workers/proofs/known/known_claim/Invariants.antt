use Rattle.pg_workers.proofs.Common.{◌≡◌, known_of, known_choice, own_choices, rows_below}
use Rattle.pg_workers.proofs.known.known_claim.Given as goal

-- the rows of the vertices seen so far
abbrev pub invariant-loop-v : goal.invariant-loop-v
invariant-loop-v l = l.rows.items ≡ rows_below (known_of l.known.rows l.player) (own_choices l.game l.player (known_choice l.known.rows)) l.v
