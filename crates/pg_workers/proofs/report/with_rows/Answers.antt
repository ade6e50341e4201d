use Rattle.pg_workers.proofs.Common.{◌≡◌, ◌+◌, List, ◌++◌, length, take, drop, sym, ap, ◌∙◌, subst, arith, ReportRow, settled_in, AreNotedRows}
use Rattle.pg_workers.proofs.Common.{rows_in, HasFreePlaces}
use Rattle.pg_workers.proofs.report.PlacedRows.{has_places, more_placed, more_settled}
use Rattle.pg_workers.proofs.report.Rows.{written}
use Rattle.pg_workers.proofs.report.with_rows.Goals as goal

pub place_rows-requires : goal.place_rows-requires
place_rows-requires c =
    let at = c.loop-rows in let prefix = c.requires.prefix in
    let places = has_places prefix.0 c.args.report.items at.report.items c.args.all.now at.rows-index c.rows-item.result c.requires.blank prefix.1 prefix.2
    c.loop-rows-test.true c.rows-item.is at.invariant.1 in
    subst (λ (now : List ReportRow). HasFreePlaces now c.as_slice.result.now) (sym c.as_mut_slice.ensures.value)
    (subst (HasFreePlaces at.report.items) (sym c.as_slice.ensures.value) places)

pub loop-rows-preserved : goal.loop-rows-preserved
loop-rows-preserved c =
    let at = c.loop-rows in let i = at.invariant in let prefix = c.requires.prefix in
    let new = c.place_rows.new.report in let rows = c.rows-item.result in
    let here = c.as_mut_slice.ensures.value in let theirs = c.as_slice.ensures.value in
    let p = c.place_rows.ensures in
    let placed : AreNotedRows at.report.items new rows.items =
    subst (λ (now : List ReportRow). AreNotedRows now new rows.items) here (subst (AreNotedRows c.as_mut_slice.result.now new) theirs p.placed) in
    let long = p.placed.size ∙ c.as_mut_slice.ensures.len in
    let back : take at.report.len (new ++ drop (length new) at.report.items) ≡ new = written new (drop (length new) at.report.items) at.report.len long in
    let more = more_settled c.args.all.now at.rows-index rows c.loop-rows-test.true c.rows-item.is in
    let sum : settled_in new ≡ settled_in at.report.items + settled_in rows.items =
    p.settled ∙ ap (λ (l : List ReportRow). settled_in l + settled_in c.as_slice.result.now) here ∙ ap
    (λ (l : List ReportRow). settled_in at.report.items + settled_in l) theirs in
    let before = i.2 in (
      i.0,
      subst (λ (now : List ReportRow). AreNotedRows c.args.report.items now (rows_in (take (at.rows-index + 1) c.args.all.now))) (sym back)
          (more_placed prefix.0 c.args.report.items at.report.items new c.args.all.now at.rows-index rows prefix.2 c.loop-rows-test.true
          c.rows-item.is i.1 placed),
      ap settled_in back ∙ omega arith,
    )
