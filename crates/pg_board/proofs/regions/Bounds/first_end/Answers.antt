use Rattle.pg_board.proofs.Common.{◌≡◌, None, sym, ◌∙◌, rules, union, named, settled, table_state}
use Rattle.pg_board.proofs.regions.KeptEdgesOfRows.{no_successor, first_successor}
use Rattle.pg_board.proofs.regions.Bounds.first_end.Goals as goal

pub returns-then-not-has : goal.returns-then-not-has
returns-then-not-has c =
    let b = c.args.self.now in
    let none : c.args.row.1 ≡ None = search rules in
    first_successor b.game.now b.is_game b.player
    (union (named b.rest.now) (settled (table_state b.regions.now.table.items) b.player)) c.args.row c.requires none
    c.successors-w-items.result.now c.successors-w-items.ensures.all c.row.w-index c.row-test.true c.row.invariant
    (sym c.has-in-row.ensures ∙ c.if-not-has.true)

pub returns : goal.returns
returns c =
    let b = c.args.self.now in
    let none : c.args.row.1 ≡ None = search rules in
    no_successor b.game.now b.is_game b.player
    (union (named b.rest.now) (settled (table_state b.regions.now.table.items) b.player)) c.args.row c.requires none
    c.successors-w-items.result.now c.successors-w-items.ensures.all c.row.w-index c.row-test.false c.row.invariant
