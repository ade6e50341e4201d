use Rattle.pg_game.proofs.Common.{rules}
use Rattle.pg_game.proofs.Common.{◌≡◌, ◌<◌, true, false, [], length, get_or, sym, ◌∙◌, arith, get_or_read, drop_of_length-le}
use Rattle.pg_game.specs.Specification.{is_empty}
use Rattle.pg_game.proofs.Sound.{without_here, without_later, empty_is}
use Rattle.pg_game.proofs.SpecificationLists.{length_is, spec_is, spec_in}
use Rattle.pg_game.proofs.builder.GameBuilder.first_without_successor.Goals as goal

pub overflow_cast-v-end : goal.overflow_cast-v-end
overflow_cast-v-end c = let n = length_is c.self.invariant c.self.view_is in omega (arith, n, c.requires, c.len-v-end.ensures)

pub returns-then-is_empty : goal.returns-then-is_empty
returns-then-is_empty c =
    let ss = c.args.self.now in
    let v = c.lines.v in
    let n = length_is c.self.invariant c.self.view_is in
    let l : v < length ss = omega (arith, n, c.lines-test.true, c.len-v-end.ensures) in
    let s = spec_in c.self.invariant v in
    let row = c.row.ensures.row in
    let empty : is_empty (get_or c.self.inside.rows v []) ≡ true = rw (← row) (empty_is c.row.result.now ∙ sym c.if-is_empty.ensures) in
    let id = get_or_read c.self.inside.ids.items v _ (omega (arith, n, l)) c.index.ensures 0 in
    rw id (sym (c.lines.invariant ∙ without_here ss v s l (sym (spec_is c.self.invariant c.self.view_is v s l)) empty))

pub lines-preserved : goal.lines-preserved
lines-preserved c =
    let ss = c.args.self.now in
    let v = c.lines.v in
    let n = length_is c.self.invariant c.self.view_is in
    let l : v < length ss = omega (arith, n, c.lines-test.true, c.len-v-end.ensures) in
    let s = spec_in c.self.invariant v in
    let row = c.row.ensures.row in
    let some : is_empty (get_or c.self.inside.rows v []) ≡ false = rw (← row) (empty_is c.row.result.now ∙ sym c.if-is_empty.ensures) in
    c.lines.invariant ∙ without_later ss v s l (sym (spec_is c.self.invariant c.self.view_is v s l)) some

pub returns : goal.returns
returns c = search (
  rules,
  length_is,
  drop_of_length-le,
  c.self.invariant,
  c.self.view_is,
  c.args.self.now,
  c.lines.v,
  c.lines-test.false,
  c.len-v-end.ensures,
  c.lines.invariant,
)
