use Rattle.pg_game.proofs.Common.{rules, ◌<◌, length, sym, ap, arith, different, drop_of_length-le, refl, ◌≡◌, ℕ, ◌+◌, ◌≤◌, List, [], ◌∷◌, drop, get_or, ◌∙◌}
use Rattle.pg_game.proofs.Common.{drop_more, sum_by-cons, Spec, edges, size_of, successor_lists}
use Rattle.pg_game.proofs.Different.{different_is, different_most}
use Rattle.pg_game.proofs.SpecificationLists.{length_is, lists_is, spec_is, spec_in}
use Rattle.pg_game.proofs.builder.GameBuilder.has_too_many_edges.Goals as goal

edges_more : (specs : List Spec) (k : ℕ) (s : Spec) → k < length specs → s ≡ get_or specs k s →
    edges (drop k specs) ≡ different s.successors + edges (drop (k + 1) specs)
edges_more specs k s l is =
    ap edges (drop_more specs k s l ∙ ap (λ (x : Spec). x ∷ drop (k + 1) specs) (sym is))
    ∙ sum_by-cons (λ (x : Spec). different x.successors) s (drop (k + 1) specs)

-- no more edges than numbers in the lists
edges_most : (specs : List Spec) → edges specs ≤ size_of (successor_lists specs)
edges_most [] = omega arith
edges_most (s ∷ specs) =
    let a = sum_by-cons (λ (x : Spec). different x.successors) s specs in
    let b = sum_by-cons (λ (row : List ℕ). length row) s.successors (successor_lists specs) in
    omega (arith, a, b, different_most s.successors, edges_most specs)

pub lines-preserved : goal.lines-preserved
lines-preserved c =
    let ss = c.args.self.now in
    let v = c.lines.v in
    let n = length_is c.self.invariant c.self.view_is in
    let l : v < length ss = omega (arith, n, c.lines-test.true, c.len-v-end.ensures) in
    let s = spec_in c.self.invariant v in
    let row = c.row.ensures.row in
    let put = c.in_ok-put_rising.ensures in
    let count = different_is c.row.result.now c.put_rising.new.rising.items put.rising put.same in
    let same = ap different row in
    let more = edges_more ss v s l (sym (spec_is c.self.invariant c.self.view_is v s l)) in
    record {
      sum = omega (arith, count, same, more, c.lines.invariant.sum);
      small = c.if-edges-gt-MAX_EDGES.false;
    }

pub returns-then-size-le-MAX_EDGES : goal.returns-then-size-le-MAX_EDGES
returns-then-size-le-MAX_EDGES c = search (
  rules,
  edges_most,
  lists_is,
  c.args.self.now,
  c.self.invariant,
  c.self.view_is,
  c.size.ensures.size,
  c.if-size-le-MAX_EDGES.true,
)

pub overflow_cast-v-end : goal.overflow_cast-v-end
overflow_cast-v-end c = let n = length_is c.self.invariant c.self.view_is in omega (arith, n, c.requires, c.len-v-end.ensures)

pub returns-then-edges-gt-MAX_EDGES : goal.returns-then-edges-gt-MAX_EDGES
returns-then-edges-gt-MAX_EDGES c =
    let ss = c.args.self.now in
    let v = c.lines.v in
    let n = length_is c.self.invariant c.self.view_is in
    let l : v < length ss = omega (arith, n, c.lines-test.true, c.len-v-end.ensures) in
    let s = spec_in c.self.invariant v in
    let put = c.in_ok-put_rising.ensures in
    let count = different_is c.row.result.now c.put_rising.new.rising.items put.rising put.same in
    let same = ap different c.row.ensures.row in
    let more = edges_more ss v s l (sym (spec_is c.self.invariant c.self.view_is v s l)) in
    (λ t. omega (arith, count, same, more, c.lines.invariant.sum, c.if-edges-gt-MAX_EDGES.true), λ k. refl)

pub returns : goal.returns
returns c = search (
  rules,
  length_is,
  drop_of_length-le,
  c.self.invariant,
  c.self.view_is,
  c.args.self.now,
  c.lines.v,
  c.lines-test.false,
  c.len-v-end.ensures,
  c.lines.invariant.sum,
  c.lines.invariant.small,
)
