use Rattle.pg_workers.proofs.Common.{rules, ◌+◌, ◌∙◌, ap, sym}
use Rattle.pg_workers.proofs.report.Rows.{blank_more, blank_in_order, blank_settled}
use Rattle.pg_workers.proofs.report.blank_report.Goals as goal

pub loop-job-preserved : goal.loop-job-preserved
loop-job-preserved c =
    let i = c.loop-job.invariant in let pushed = c.push_reserved.ensures in
    let old = c.loop-job.report in (
      pushed.len ∙ ap (λ n. n + 1) i.0,
      pushed.capacity ∙ i.1,
      blank_more c.push_reserved.new.self.items old.items c.blank.result c.loop-job.job pushed.items c.blank.ensures (sym old.ok.0 ∙ i.0) i.2,
    )

pub returns : goal.returns
returns c = search (rules, blank_in_order, blank_settled, c.loop-job.invariant, c.loop-job-test.false, c.loop-job.auto.job-end)
