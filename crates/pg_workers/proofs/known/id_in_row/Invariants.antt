use Rattle.pg_workers.proofs.Common.{◌≡◌, ◌≤◌, length, known_of, known_choice, own_choices, rows_below}
use Rattle.pg_workers.proofs.known.id_in_row.Given as goal

-- so many vertices of the set were seen, and no more than are looked for
abbrev pub invariant-loop-v : goal.invariant-loop-v
invariant-loop-v l = record {
  seen : l.before ≡ length (rows_below (known_of l.known.rows l.player) (own_choices l.game l.player (known_choice l.known.rows)) l.v);
  few : l.before ≤ l.row;
}
