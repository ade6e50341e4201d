-- The sum of a report's column `settled` is what its workers settled, and the calling thread's entries come after.
use Rattle.pg_game.specs.declared.player.Player.TheVariants.{Even, Odd}
use Rattle.pg_workers.proofs.Common.{AreOfCaller, [], ◌∷◌, drop}
use Rattle.pg_workers.proofs.Common.{rules, ◌≡◌, ℕ, ◌+◌, List, length, take, sym, ap, ◌∙◌, subst, arith, length-append, take-append_seam, Graph}
use Rattle.pg_workers.proofs.Common.{drop-append_seam, IsExactSolution, KnownRows, Journal, state_of, IsLawful, number_settled, IsFull, AreStateRows, BoardRecord}
use Rattle.pg_workers.proofs.Common.{ReportRow, AddsUp, IsInOrder, IsReport, settled_in, IsLater, HasSettled, IsOutcome}
use Rattle.pg_board.proofs.OwnEntries.{continued}
use Rattle.pg_workers.specs.KnownRegions.{KeepsKnown}
use Rattle.pg_workers.specs.declared.solve.Outcome.{Outcome}
use Rattle.pg_workers.proofs.KeptState.{keeps_in_rows}

pub adds_up : (old new : BoardRecord) (report : List ReportRow) (known : ℕ) → IsLater (Even ∷ Odd ∷ []) old new → settled_in report + known ≡ number_settled old.journal
    → AddsUp known new.journal report
adds_up old new report known later is =
    let long = ap length later.journal ∙ length-append old.journal later.added in
    let few = later.few in
    record {
      by_workers = length old.journal;
      within = omega arith;
      last = omega arith;
      settled = is ∙ ap number_settled (sym (ap (take (length old.journal)) later.journal ∙ take-append_seam old.journal later.added));
      by_caller =
          subst (λ (j : Journal). AreOfCaller (Even ∷ Odd ∷ []) j) (sym (ap (drop (length old.journal)) later.journal ∙ drop-append_seam old.journal later.added))
          later.by_caller;
    }

-- the board of a run and its report before the calling thread settles the rest, and what it then returns
pub record IsSettledRun (old new : BoardRecord) (known : KnownRows) (total workers : ℕ) (o : Outcome) : Type 0 where
  pub later : IsLater (Even ∷ Odd ∷ []) old new
  pub entries : o.entries.items ≡ new.journal
  pub lawful : IsLawful new.graph new.journal
  pub full : IsFull new.graph (state_of new.journal)
  pub state : AreStateRows new.graph (state_of new.journal) o.solution.rows
  pub exact : IsExactSolution new.graph o.solution.rows
  pub settled : HasSettled old.graph known o.report.items old.journal
  pub kept : KeepsKnown old.graph known (state_of old.journal)
  pub order : IsInOrder total o.report.items
  pub rows : IsReport workers o.report.items

pub is_outcome : (old new : BoardRecord) (known : KnownRows) (total workers : ℕ) (o : Outcome) → IsSettledRun old new known total workers o
    → IsOutcome old.graph known total workers o
is_outcome old new known total workers o r = record {
  regions = r.settled.regions;
  lawful = subst (λ (j : Journal). IsLawful old.graph j) (sym r.entries) (subst (λ (g : Graph). IsLawful g new.journal) r.later.graph r.lawful);
  full =
      subst (λ (j : Journal). IsFull old.graph (state_of j)) (sym r.entries) (subst (λ (g : Graph). IsFull g (state_of new.journal)) r.later.graph r.full);
  state = search (rules, r.state, r.entries, r.later.graph);
  exact = subst (λ (g : Graph). IsExactSolution g o.solution.rows) r.later.graph r.exact;
  kept = λ p v i. keeps_in_rows old new o.solution.rows (continued r.later) r.lawful r.state v _ (r.kept p v i);
  report = r.order;
  rows = r.rows;
  adds_up = (
    r.settled.attracted,
    r.settled.size,
    subst (λ (j : Journal). AddsUp r.settled.attracted j o.report.items) (sym r.entries)
        (adds_up old new o.report.items r.settled.attracted r.later r.settled.sum),
  );
}
