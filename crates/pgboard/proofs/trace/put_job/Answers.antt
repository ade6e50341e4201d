use Rattle.pgboard.proofs.Common.{on_ok_weaker}
use Rattle.pgboard.proofs.trace.WordLines.{first, next, last}
use Rattle.pgboard.proofs.trace.put_job.Goals as goal

pub returns : goal.returns
returns c =
    let begun = next _ (next _ (first c.in_ok-put.ensures) c.in_ok-put_next.ensures) c.in_ok-put_worker.ensures in
    let counted = next _ (next _ (next _
    (next _ begun c.in_ok-put_next-2.ensures) c.in_ok-put_next-3.ensures) c.in_ok-put_next-4.ensures) c.in_ok-put_next-5.ensures in
    on_ok_weaker _ (last (next _ (next _ counted c.in_ok-put_flag.ensures) c.in_ok-put_flag-2.ensures)) c.put-2.ensures
