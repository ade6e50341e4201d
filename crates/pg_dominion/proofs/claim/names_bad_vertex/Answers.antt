use Rattle.pg_dominion.proofs.Common.{refl, arith, rules}
use Rattle.std.proofs.Math.Bool.{or_assoc}
use Rattle.std.proofs.Math.Seq.{drop-cons}
use Rattle.pg_dominion.proofs.Shape.{right_before_none, right_before_next, wrong_next, all_right}
use Rattle.pg_dominion.proofs.claim.names_bad_vertex.Goals.{then-row-least-via-then-row-least, then-row-least-via-else-row-least+then-row-n}
use Rattle.pg_dominion.proofs.claim.names_bad_vertex.Goals.{then-row-least-via-else-row-least+else-row-n+then-not-is_right_row}
use Rattle.pg_dominion.proofs.claim.names_bad_vertex.Goals as goal

pub returns-then-row-least-clause-fault : goal.returns-then-row-least-clause-fault
returns-then-row-least-clause-fault c =
    let q = c.rows in
    rw (← c.as_slice-rows.ensures, q.invariant.place)
    (wrong_next c.args.game.now c.args.claim.now.player c.as_slice-rows.result.now q.row-index q.least q.invariant.checked c.rows-test.true
    (λ right up. elim c.then-row-least.branch [
      | then-row-least-via-then-row-least w ↦ omega (arith, up, w.if-row-least.true)
      | then-row-least-via-else-row-least+then-row-n w ↦ absurd (omega (arith, w.if-row-n.true, right.vertex))
      | then-row-least-via-else-row-least+else-row-n+then-not-is_right_row w ↦ (let t = w.is_right_row.ensures.1 right in search rules)
    ]))

pub rows-init : goal.rows-init
rows-init c = record {
  checked = right_before_none c.args.game.now c.args.claim.now.player c.as_slice-rows.result.now;
  place = refl;
  bad = refl;
}

pub rows-preserved : goal.rows-preserved
rows-preserved c =
    let q = c.rows in
    let rows = c.as_slice-rows.result.now in
    record {
      checked = right_before_next c.args.game.now c.args.claim.now.player rows q.row-index q.least q.invariant.checked c.rows-test.true
          (c.is_right_row.ensures.0 (search rules)) (omega (arith, c.if-row-least.false));
      place = omega (arith, q.invariant.place);
      bad = search (rules, q.invariant.bad, drop-cons, c.rows-test.true, c.is_bad-bad.ensures, or_assoc);
    }

pub returns-clause-shape : goal.returns-clause-shape
returns-clause-shape c = record {
  nonempty = search (rules, c.as_slice-rows.ensures, c.is_empty.ensures, c.if-is_empty.false);
  right = rw (← c.as_slice-rows.ensures) (all_right c.args.game.now c.args.claim.now.player c.as_slice-rows.result.now c.rows.row-index c.rows.least
      c.rows.invariant.checked c.rows-test.false);
}
