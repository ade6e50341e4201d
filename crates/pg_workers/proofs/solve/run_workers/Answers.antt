use Rattle.pg_workers.proofs.Common.{◌≡◌, ℕ, ◌+◌, List, Vec, Global, sum, sym, ap, ◌∙◌, subst, arith, min, sum-map, sum_by_push, ReportRow, IsDrawnRow, rows_in}
use Rattle.pg_workers.proofs.Common.{total_of, settled_in, AreOfPrefix, AreNotedRows, HeldTicket}
use Rattle.pg_workers.proofs.report.PlacedRows.{is_report, of_front, placed_numbered}
use Rattle.pg_workers.proofs.report.Rows.{all_rows, settled_in-rows_in}
use Rattle.pg_workers.proofs.solve.run_workers.Goals as goal

abbrev settled_by_one : Vec ReportRow Global → ℕ
settled_by_one rows = settled_in rows.items

-- the tickets' lists are fair, so the rows are of a prefix of the jobs
pub with_rows-requires-clause-prefix : goal.with_rows-requires-clause-prefix
with_rows-requires-clause-prefix g c =
    let drawn = c.close.ensures.fair in let back = c.take_apart-shares in
    let n : ℕ = min c.args.jobs.series.total drawn.word in
    let prefix = of_front n (λ (t : HeldTicket). t.numbers) back.result.1.items back.result.2.items drawn.fair back.ensures.numbers in
    let long = c.in_ok-report.ensures.rows.0 in let bound : ℕ = c.args.setup.now.options.now.bound in
    let total = c.total-total.ensures.number ∙ ap (total_of bound) c.len.ensures.number ∙ sym c.requires.total.1 in
    let series = ap (λ s. s.total) c.requires.jobs.0 in
    (n, omega arith, subst (λ (all : List (Vec ReportRow Global)). AreOfPrefix n (rows_in all)) (sym c.as_slice.ensures.value) prefix)

pub returns-clause-order : goal.returns-clause-order
returns-clause-order g c =
    let numbered = placed_numbered _ _ _ c.in_ok-report.ensures.blank c.with_rows.ensures.placed in
    let long = c.in_ok-report.ensures.rows.0 in let bound : ℕ = c.args.setup.now.options.now.bound in
    let total = c.total-total.ensures.number ∙ ap (total_of bound) c.len.ensures.number ∙ sym c.requires.total.1 in
    (omega (arith, c.with_rows.ensures.length), numbered)

-- the rows of all workers say together how much their shares settled, which is what the board has beside the first share
pub returns-clause-settled : goal.returns-clause-settled
returns-clause-settled g c =
    let rows = c.take_apart-shares.result.2.items in
    let together : settled_in (rows_in c.as_slice.result.now) ≡ sum c.take_apart-shares.result.0.items =
    ap (λ (all : List (Vec ReportRow Global)). settled_in (rows_in all)) c.as_slice.ensures.value ∙ settled_in-rows_in rows ∙ sym
    (sum-map settled_by_one rows) ∙ ap sum c.take_apart-shares.ensures.amounts in
    let all : sum c.push_reserved.new.self.items ≡ sum c.take_apart-shares.result.0.items + c.args.first =
    ap sum c.push_reserved.ensures.items ∙ sum_by_push (λ (n : ℕ). n) c.take_apart-shares.result.0.items c.args.first in
    omega (arith, together, all, c.close-board.ensures.exact, c.in_ok-report.ensures.settled, c.with_rows.ensures.settled)

-- a row is of a worker where its job was drawn, and else it is blank
pub returns-clause-rows : goal.returns-clause-rows
returns-clause-rows g c =
    let back = c.take_apart-shares in let rows = back.result.2.items in
    let workers : ℕ = g.J.RunJobs.workers in let drawn = c.close.ensures.fair in
    let n : ℕ = min c.args.jobs.series.total drawn.word in
    let prefix = of_front n (λ (t : HeldTicket). t.numbers) back.result.1.items rows drawn.fair back.ensures.numbers in
    let made = c.with_rows in
    let placed : AreNotedRows c.in_ok-report.report.items made.result.items (rows_in rows) =
    subst (λ (all : List (Vec ReportRow Global)). AreNotedRows c.in_ok-report.report.items made.result.items
    (rows_in all)) c.as_slice.ensures.value made.ensures.placed in
    is_report workers n c.in_ok-report.report.items made.result.items (rows_in rows) c.in_ok-report.ensures.blank placed prefix
    (all_rows (IsDrawnRow workers) rows back.ensures.done)
