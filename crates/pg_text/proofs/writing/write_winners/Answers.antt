use Rattle.std.proofs.lemmas.Grind.{common_steps}
use Rattle.pg_text.proofs.Common.{ap, drop, length, map, List, ℕ, arith, length-append, written_rows}
use Rattle.std.proofs.Common.{None}
use Rattle.pg_text.proofs.writing.Lengths.{short_winners}
use Rattle.pg_text.proofs.writing.write_winners.Goals as goal

pub returns-clause-short : goal.returns-clause-short
returns-clause-short c =
    let g = c.args.game.now in
    let rest : List ℕ = written_rows g (drop c.rows.v g) (map (λ r. (r.0, None)) (drop c.rows.v c.as_slice-rows.result.now)) in
    let all = ap (λ (text : List ℕ). length text) c.rows.invariant in
    let parts = length-append c.rows.out.items rest in
    omega (arith, short_winners g c.len-v-end.ensures.game c.len-v-end.ensures.limits c.as_slice-rows.result.now)

pub rows-preserved : goal.rows-preserved
rows-preserved c = grind (arith, common_steps)
