use Rattle.pgboard.proofs.Common.{rules, refl, ◌∙◌, ap, Err, err_from_is_err_and}
use Rattle.pgboard.proofs.run.FaultsOfRuns.{writes_err, turns_err}
use Rattle.pgboard.specs.Status.{verdict_status}
use Rattle.pgboard.specs.declared.fault.RunFault.{RunFault}
use Rattle.pgboard.proofs.run.run_asked.Goals as goal

pub returns-in_err-run_joined-in-Joined-clause-writes : goal.returns-in_err-run_joined-in-Joined-clause-writes
returns-in_err-run_joined-in-Joined-clause-writes g c =
    let p = err_from_is_err_and c.from_residual.result c.from_residual.ensures.1 in
    rw (c.in-Joined.is, p.1, p.2)
    (writes_err (λ verdict line is. (verdict_status verdict, (verdict, refl, is.0, is.1))) c.in_err-run_joined-in-Joined.ensures.writes)

pub returns-in_err-run_verify-in-Verify-clause-reads : goal.returns-in_err-run_verify-in-Verify-clause-reads
returns-in_err-run_verify-in-Verify-clause-reads g c =
    let p = err_from_is_err_and c.from_residual-in_err-run_verify-in-Verify.result c.from_residual-in_err-run_verify-in-Verify.ensures.1 in
    rw (c.in-Verify.is, p.1, p.2) (turns_err c.in_err-run_verify-in-Verify.ensures.reads)

pub returns-in_err-run_verify-in-Verify-clause-writes : goal.returns-in_err-run_verify-in-Verify-clause-writes
returns-in_err-run_verify-in-Verify-clause-writes g c =
    let p = err_from_is_err_and c.from_residual-in_err-run_verify-in-Verify.result c.from_residual-in_err-run_verify-in-Verify.ensures.1 in
    rw (c.in-Verify.is, p.1, p.2)
    (writes_err (λ verdict line is. (verdict_status verdict, (verdict, refl, is.0, is.1))) c.in_err-run_verify-in-Verify.ensures.writes)

pub returns-in_err-run_tidy-in-Tidy-clause-writes : goal.returns-in_err-run_tidy-in-Tidy-clause-writes
returns-in_err-run_tidy-in-Tidy-clause-writes g c =
    let p = err_from_is_err_and c.from_residual-in_err-run_tidy-in-Tidy.result c.from_residual-in_err-run_tidy-in-Tidy.ensures.1 in
    rw (c.in-Tidy.is, p.1, p.2) (writes_err (λ _ text is. (0, (refl, is.0, is.1, is.2))) c.in_err-run_tidy-in-Tidy.ensures.writes)

pub returns-in_err-run_trace-in-Trace-clause-writes : goal.returns-in_err-run_trace-in-Trace-clause-writes
returns-in_err-run_trace-in-Trace-clause-writes g c =
    let p = err_from_is_err_and c.from_residual-in_err-run_trace-in-Trace.result c.from_residual-in_err-run_trace-in-Trace.ensures.1 in
    rw (c.in-Trace.is, p.1, p.2) (writes_err (λ _ text is. (0, (refl, is.0, is.1, is.2))) c.in_err-run_trace-in-Trace.ensures.writes)

pub returns-in_err-write_all-in-Help-clause-writes : goal.returns-in_err-write_all-in-Help-clause-writes
returns-in_err-write_all-in-Help-clause-writes g c =
    let p = err_from_is_err_and c.from_residual-in_err-write_all-in-Help.result c.from_residual-in_err-write_all-in-Help.ensures.1 in
    let written = c.in_err-write_all-in-Help.ensures in
    let only = p.2 ∙ written.only in
    rw (c.in-Help.is, p.1) record {
      written = tt;
      cut = λ is. record {
        answer = 0;
        text = c.as_bytes.result.now;
        output = (refl, search (rules, c.as_bytes.ensures.value, c.as_str.ensures.value));
        prefix = written.cut;
      };
      nothing = λ other. absurd (other only);
      no_failure = λ none. absurd (none (ap (λ (e : RunFault). Err e) only));
      failed = λ is. written.failed;
    }

pub returns-in_err-run_solve-in-Some-clause-reads : goal.returns-in_err-run_solve-in-Some-clause-reads
returns-in_err-run_solve-in-Some-clause-reads g c =
    let p = err_from_is_err_and c.from_residual-in_err-run_solve-in-Some.result c.from_residual-in_err-run_solve-in-Some.ensures.1 in
    rw (c.in-Solve.is, c.in-Some.is, p.1, p.2) (turns_err c.in_err-run_solve-in-Some.ensures.reads)

pub returns-in_err-run_solve-in-Some-clause-writes : goal.returns-in_err-run_solve-in-Some-clause-writes
returns-in_err-run_solve-in-Some-clause-writes g c =
    let p = err_from_is_err_and c.from_residual-in_err-run_solve-in-Some.result c.from_residual-in_err-run_solve-in-Some.ensures.1 in
    rw (c.in-Solve.is, c.in-Some.is, p.1, p.2) (writes_err (λ _ text is. (0, (refl, is))) c.in_err-run_solve-in-Some.ensures.writes)

pub returns-in_err-run_solve-in-None-clause-writes : goal.returns-in_err-run_solve-in-None-clause-writes
returns-in_err-run_solve-in-None-clause-writes g c =
    let p = err_from_is_err_and c.from_residual-in_err-run_solve-in-None.result c.from_residual-in_err-run_solve-in-None.ensures.1 in
    rw (c.in-Solve.is, c.in-None.is, p.1, p.2) (writes_err (λ _ text is. (0, (refl, is))) c.in_err-run_solve-in-None.ensures.writes)
