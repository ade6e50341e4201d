use Rattle.pg_board.proofs.Common.{◌≡◌, ℕ, ◌<◌, true, get_or, union, named, settled, table_state}
use Rattle.pg_board.proofs.regions.Bounds.first_end.Given as goal

abbrev pub invariant-row : goal.invariant-row
invariant-row l =
    (k : ℕ) → k < l.w-index → union (named l.self.rest.now) (settled (table_state l.self.regions.now.table.items) l.self.player) (get_or l.w-items k 0)
    ≡ true
