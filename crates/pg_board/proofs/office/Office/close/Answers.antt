use Rattle.pg_board.proofs.office.Office.close.Goals as goal
use Rattle.pg_board.proofs.Common.{arith}
use Rattle.std.proofs.lemmas.Grind.{common_steps}

pub loop-share-preserved : goal.loop-share-preserved
loop-share-preserved c d =
    let merged = d.merge.ensures in
    let popped = d.in-Some-pop.ensures in
    let last = d.share in
    let all = d.loop-share.invariant in (
      omega arith,
      grind (arith, common_steps),
    )
