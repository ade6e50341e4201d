use Rattle.pg_workers.proofs.Common.{◌∙◌, ap, arith, set, ReportRow}
use Rattle.std.proofs.lemmas.List.Edits.{map_over_more}
use Rattle.pg_workers.specs.private.Report.{without_posts}
use Rattle.pg_workers.proofs.report.with_no_posts.Goals as goal

pub loop-k-preserved : goal.loop-k-preserved
loop-k-preserved c =
    let i = c.loop-k.invariant in let xs = c.args.report.items in
    let ys = c.loop-k.report.items in let k = c.loop-k.k in (
      i.0,
      ap (λ (r : ReportRow). set ys k r) c.without_posts.ensures ∙ map_over_more without_posts xs ys k c.index.result.now
          (omega (arith, c.loop-k-test.true, c.len-k-end.ensures, c.args.report.ok.0)) i.1 c.index.ensures,
    )
