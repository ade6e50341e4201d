use Rattle.pg_board.proofs.Common.{ℕ, ◌<◌, get_or, None, union, named, settled, table_state, EndsOutside}
use Rattle.pg_board.proofs.regions.Bounds.first_edge.Given as goal

abbrev pub invariant-rows : goal.invariant-rows
invariant-rows l =
    (k w : ℕ) → k < l.row-index → EndsOutside l.self.game.now l.self.player
    (union (named l.self.rest.now) (settled (table_state l.self.regions.now.table.items) l.self.player)) (get_or l.self.rest.now k (0, None)) w → ⊥
