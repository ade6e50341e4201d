use Rattle.pg_workers.proofs.Common.{IsExactSolution, state_of, AreStateRows}
use Rattle.pg_workers.proofs.solve.SettledSum.{is_outcome}
use Rattle.std.proofs.lemmas.Bool.{true_from_ne_false}
use Rattle.pg_workers.proofs.solve.outcome_of.Goals as goal

pub returns : goal.returns
returns c = λ known total workers settled kept order rows.
    let new = c.post_rest.new.self in let later = c.in_ok-post_rest.ensures in
    let done = true_from_ne_false _ later.limited in
    let full = c.in_ok-solution.ensures in
    let state : AreStateRows new.graph (state_of new.journal) c.in-Some.solution.rows = rw c.in-Some.is at full.state in
    let exact : IsExactSolution new.graph c.in-Some.solution.rows = rw c.in-Some.is at full.solution in
    is_outcome c.args.board new known total workers
    (record { solution = c.in-Some.solution; entries = c.into_entries.result; report = c.args.report })
    (record {
      later = later.later;
      entries = c.into_entries.ensures;
      lawful = later.lawful;
      full = later.full done;
      state = state;
      exact = exact;
      settled = settled;
      kept = kept;
      order = order;
      rows = rows;
    })
