use Rattle.pg_text.proofs.Common.{rules}
use Rattle.pg_text.proofs.Common.{◌≡◌, ℕ, ◌+◌, ◌<◌, List, [], ◌∷◌, ◌++◌, length, drop, get_or, sym, ap, subst, arith, append_assoc, length-append, None}
use Rattle.pg_text.proofs.Common.{drop_more, Even, Graph, vertex_at, SolutionRows, AreSolutionRows}
use Rattle.pg_text.proofs.Common.{written_rows}
use Rattle.pg_game.proofs.AllElements.{all_at}
use Rattle.pg_text.proofs.writing.Lengths.{short_solution}
use Rattle.pg_text.proofs.writing.write_solution.Goals as goal

-- one more row
row_more : (g : Graph) (rows : SolutionRows) (v : ℕ) → length rows ≡ length g → v < length g
    → written_rows g (drop v g) (drop v rows) ≡ written_rows g (vertex_at g v ∷ []) (get_or rows v (Even, None) ∷ [])
    ++ written_rows g (drop (v + 1) g) (drop (v + 1) rows)
row_more g rows v e l = search (rules, drop_more, append_assoc)

pub put_row-requires-clause-choice : goal.put_row-requires-clause-choice
put_row-requires-clause-choice c = search (rules, all_at, c.args.game.now, c.rows.v, c.args.solution.now.rows, c.as_slice-rows.ensures, c.requires.choices)

pub rows-preserved : goal.rows-preserved
rows-preserved c = search (
  rules,
  append_assoc,
  row_more,
  c.args.game.now,
  c.as_slice-rows.result.now,
  c.as_slice-rows.ensures,
  c.requires.size,
  c.rows.v,
  c.in_ok-put_row.ensures,
  c.rows.out.items,
  c.rows.invariant,
)

pub returns-clause-short : goal.returns-clause-short
returns-clause-short c =
    let g = c.args.game.now in
    let rows = c.as_slice-rows.result.now in
    let rest : List ℕ = written_rows g (drop c.rows.v g) (drop c.rows.v rows) in
    let all = ap (λ (text : List ℕ). length text) c.rows.invariant in
    let parts = length-append c.rows.out.items rest in
    let are : AreSolutionRows g rows = subst (AreSolutionRows g) (sym c.as_slice-rows.ensures) c.requires in
    omega (arith, short_solution g c.len-v-end.ensures.game c.len-v-end.ensures.limits rows are)
