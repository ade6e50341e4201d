use Rattle.pg_workers.proofs.Common.{◌≡◌, ◌∙◌, ℕ, ◌+◌, length, sym, ap, subst, rules, Graph, KnownRows, BoardRecord, HasSettled, IsInOrder, IsReport, IsOutcome, List, ReportRow}
use Rattle.pg_workers.proofs.Common.{number_settled, settled_in, total_of, state_of}
use Rattle.pg_board.specs.Journal.{BeginsWith}
use Rattle.pg_workers.specs.KnownRegions.{KeepsKnown}
use Rattle.pg_workers.specs.declared.solve.Outcome.{Outcome}
use Rattle.pg_workers.proofs.KeptState.{keeps_first}
use Rattle.pg_workers.proofs.solve.solve_on.Goals as goal

same_outcome : {g h : Graph} {known : KnownRows} {total workers seats : ℕ} {o : Outcome} → h ≡ g → seats ≡ workers → IsOutcome h known total seats o
    → IsOutcome g known total workers o
same_outcome same all outcome = rw (same, all) at outcome

pub returns-clause-outcome : goal.returns-clause-outcome
returns-clause-outcome g c =
    let setup = c.args.setup.now in
    let game = setup.start.now.game.now in let known = setup.start.now.known.now.rows in
    let has = c.requires.known in let run = c.in_ok-closed.ensures in
    let bound : ℕ = setup.options.now.bound in
    let workers : ℕ = c.in_ok-jobs.jobs.seats in
    let own : BoardRecord = c.in_ok-own.own in let report = c.in_ok-own.report.items in
    let board : own ≡ c.in_ok-closed.closed = c.in_ok-own.ensures.same.0 in
    let rows : report ≡ c.in_ok-closed.report.items = c.in_ok-own.ensures.same.1 in
    let of_game : own.graph ≡ game =
    ap (λ (b : BoardRecord). b.graph) board ∙ run.board.0 ∙ sym (ap (λ (b : BoardRecord). b.graph) c.requires.opened) ∙ c.requires.game in
    let begins : BeginsWith c.args.board.journal own.journal =
    subst (λ (b : BoardRecord). BeginsWith b.journal own.journal) (sym c.requires.opened)
    (subst (λ (b : BoardRecord). BeginsWith _ b.journal) (sym board) run.board.1) in
    let kept : KeepsKnown game known (state_of own.journal) = λ p v i. keeps_first c.args.board.journal own.journal v _ begins (has.states p v i) in
    let sum : settled_in report + number_settled c.args.board.journal ≡ number_settled own.journal =
    search (rules, run.settled, board, rows, c.in_ok-office.ensures.shares, c.remove-first.ensures.value) in
    let settled : HasSettled game known report own.journal = record { regions = has.regions; attracted = _; size = has.number; sum = sum } in
    let total : c.in_ok-jobs.jobs.series.total ≡ total_of bound (length game) =
    c.in_ok-jobs.ensures.jobs.0 ∙ c.total-total.ensures.number ∙ ap (total_of bound) c.len.ensures.number in
    let order : IsInOrder (total_of bound (length game)) report =
    subst (λ (n : ℕ). IsInOrder n report) total (subst (λ (r : List ReportRow). IsInOrder c.in_ok-jobs.jobs.series.total r) (sym rows) run.order) in
    same_outcome of_game c.in_ok-jobs.ensures.jobs.1
    (c.in_ok-outcome_of.ensures known (total_of bound (length game)) workers
    (subst (λ (h : Graph). HasSettled h known report own.journal) (sym of_game) settled)
    (subst (λ (h : Graph). KeepsKnown h known (state_of own.journal)) (sym of_game) kept) order
    (subst (λ (r : List ReportRow). IsReport workers r) (sym rows) run.rows))
