use Rattle.pg_board.proofs.Common.{rules, ◌≡◌, ◌+◌, ◌++◌, ◌∷◌, [], length, take, None, sym, ◌∙◌, ap, subst, arith, take_more, take_all, member_below, ClaimRows}
use Rattle.pg_board.proofs.Common.{table_state, state_with, open_before, HasWritten, row_at}
use Rattle.pg_board.proofs.regions.Tables.{Settles, state_with-none}
use Rattle.pg_board.proofs.regions.WrittenRowSteps.{Takes, row_open, before_none, HasWritten-take, same-take, written-take}
use Rattle.pg_board.proofs.contents.EntryOfRest.{HasWritten-start}
use Rattle.pg_board.proofs.regions.Regions.write_rows.Goals as goal

pub rows-init : goal.rows-init
rows-init c = search (rules, HasWritten-start, c.requires.regions, before_none, state_with-none)

pub write_row-requires-clause-table : goal.write_row-requires-clause-table
write_row-requires-clause-table c =
    let old = c.rows.invariant in
    let unsettled = row_open c.rows.self c.args.self.now c.args.rows.now c.rows.row-index c.rows-test.true old.same c.requires.unsettled c.requires.distinct in
    let l = member_below c.rows.self.unsettled (row_at c.args.rows.now c.rows.row-index).0 unsettled in
    omega (arith, l, old.growing.regions.size, old.growing.regions.mask_size)

pub write_row-requires-clause-mask : goal.write_row-requires-clause-mask
write_row-requires-clause-mask c = search (rules, row_open, c.rows-test.true, c.rows.invariant.same, c.requires.distinct, member_below)

pub rows-preserved : goal.rows-preserved
rows-preserved c =
    let g = c.args.game.now in
    let p = c.args.player in
    let rows = c.args.rows.now in
    let i = c.rows.row-index in
    let r = row_at rows i in
    let front = take i rows in
    let old = c.rows.invariant in
    let h = c.write_row.ensures in
    let unsettled = row_open c.rows.self c.args.self.now rows i c.rows-test.true old.same c.requires.unsettled c.requires.distinct in
    let settles : Settles c.rows.self c.write_row.new.self p r = record { size = h.size; table = h.table; mask = h.mask; cursors = h.cursors } in
    let taken : Takes g p c.rows.self c.write_row.new.self front r (length g) = record { settles = settles; unsettled = unsettled; growing = old.growing } in
    let more : take (i + 1) rows ≡ front ++ r ∷ [] = take_more rows i (0, None) c.rows-test.true in
    record {
      growing = subst (λ (xs : ClaimRows). HasWritten g c.write_row.new.self xs (length g)) (sym more) (HasWritten-take taken);
      same = λ v. ap (λ (xs : ClaimRows). open_before c.write_row.new.self xs v) more ∙ (same-take taken v ∙ old.same v);
      written =
          λ v. subst (λ (xs : ClaimRows). table_state c.write_row.new.self.table.items v ≡ state_with (table_state c.args.self.now.table.items) p xs v)
          (sym more)
          (written-take taken (table_state c.args.self.now.table.items) old.written v);
    }

pub returns : goal.returns
returns c =
    search (rules, c.rows.invariant.growing, c.rows.invariant.same, c.rows.invariant.written, take_all c.rows.row-index c.args.rows.now c.rows-test.false)
