use Rattle.pg_text.proofs.Common.{rules}
use Rattle.std.proofs.lemmas.List.{drop_all}
use Rattle.pg_text.proofs.Common.{ap, append-nil, drop, length, List, ℕ, arith, length-append, flat_map, written_vertex}
use Rattle.pg_text.proofs.writing.Lengths.{short_game}
use Rattle.pg_text.proofs.writing.write_forward_game.Goals as goal

pub returns-clause-short : goal.returns-clause-short
returns-clause-short c =
    let g = c.args.game.now in
    let rest : List ℕ = flat_map (written_vertex g) (drop c.vertices.v g) in
    let all = ap (λ (text : List ℕ). length text) c.vertices.invariant in
    let parts = length-append c.vertices.out.items rest in
    omega (arith, short_game g c.len-v-end.ensures.game c.len-v-end.ensures.limits)

pub returns-clause-text : goal.returns-clause-text
returns-clause-text c = search (rules, drop_all, append-nil, c.args.game.now, c.vertices.v, c.vertices.out.items, c.vertices.invariant)
