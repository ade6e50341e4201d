use Rattle.pgboard.proofs.Common.{rules, ℕ, ◌∙◌, List, length, ap, sym, subst, AllByRecursion, Journal, ReportRow, AddsUp, trace_text, NamesVertices}
use Rattle.pgboard.proofs.Common.{inr, err_from_is_err_and, RunFault, IsNoGame}
use Rattle.pg_board.specs.Work.{total_of}
use Rattle.pg_workers.specs.Report.{IsInOrder, IsReport}
use Rattle.pgboard.specs.Solving.{IsTraceText}
use Rattle.pgboard.proofs.solve.JournalRows.{journal_rows}
use Rattle.pgboard.proofs.solve.NothingKnown.{settles_nothing, only_memory}
use Rattle.pgboard.proofs.solve.run_trace.Goals as goal

pub returns-in_err-outcome-clause-fault : goal.returns-in_err-outcome-clause-fault
returns-in_err-outcome-clause-fault g c =
    let p = err_from_is_err_and c.from_residual-in_err-outcome.result c.from_residual-in_err-outcome.ensures.1 in
    let memory = only_memory _ c.in_ok-game.ensures.is_game _ c.nothing_known-known.ensures _ c.in_err-outcome.ensures.fault in
    rw (p.1, p.2) (inr (subst (λ (e : RunFault). IsNoGame (g.I.Source.left c.args.input.now) e) (sym memory) tt))

pub write_trace-requires : goal.write_trace-requires
write_trace-requires g c =
    subst (λ (j : Journal). AllByRecursion (λ e. AllByRecursion (NamesVertices (length c.in_ok-game.game)) e.rows) j) (sym c.as_slice-entries.ensures.value)
    (journal_rows _ c.in_ok-game.ensures.is_game _ c.in_ok-outcome.ensures.outcome.lawful)

pub returns-clause-writes : goal.returns-clause-writes
returns-clause-writes g c =
    let outcome = c.in_ok-outcome.ensures.outcome in
    let report = c.in_ok-outcome.outcome.report.items in
    let none = settles_nothing _ c.in_ok-game.ensures.is_game _ c.nothing_known-known.ensures _ outcome.adds_up.1 in
    let made : IsTraceText c.args.workers c.in_ok-game.game c.in_ok-text.text.items = record {
      journal = c.in_ok-outcome.outcome.entries.items;
      report = report;
      lawful = outcome.lawful;
      full = outcome.full;
      order = subst (λ (bound : ℕ). IsInOrder (total_of bound (length c.in_ok-game.game)) report) c.options_of-of_run.ensures.bound outcome.report;
      rows = subst (λ (workers : ℕ). IsReport workers report) c.options_of-of_run.ensures.workers outcome.rows;
      adds_up = subst (λ (n : ℕ). AddsUp n c.in_ok-outcome.outcome.entries.items report) none outcome.adds_up.2;
      text_is = c.in_ok-text.ensures
          ∙ ap (λ (j : Journal). trace_text c.in_ok-game.game j c.as_slice-report.result.now) c.as_slice-entries.ensures.value
          ∙ ap (λ (r : List ReportRow). trace_text c.in_ok-game.game c.in_ok-outcome.outcome.entries.items r) c.as_slice-report.ensures.value;
    } in
    search (rules, made, c.in_ok-game.ensures.game, c.as_slice.ensures.value, c.write_all.ensures)
