use Rattle.pg_board.proofs.Common.{◌∙◌, arith}
use Rattle.pg_board.proofs.office.Office.open_with.Goals as goal
use Rattle.std.proofs.lemmas.Grind.{common_steps}

pub invariant_of-push_reserved-in-loop-i : goal.invariant_of-push_reserved-in-loop-i
invariant_of-push_reserved-in-loop-i c d = let e = d.split_off-token-in-loop-i.ensures in (e.parts, e.amount)

pub loop-i-preserved : goal.loop-i-preserved
loop-i-preserved c d =
    let h = d.loop-i.invariant in
    let left = d.split_off-token-in-loop-i.ensures in
    let pushed = d.push_reserved-in-loop-i.ensures in (
      omega arith,
      omega arith,
      grind (arith, common_steps),
      omega arith,
      ◌∙◌ {a = d.push_reserved-in-loop-i.new.self.cap} pushed.capacity h.4,
      h.5,
    )
