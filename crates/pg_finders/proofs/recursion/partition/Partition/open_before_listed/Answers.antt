use Rattle.pg_finders.proofs.Common.{◌≡◌, ◌<◌, ◌≤◌, length, vec_len, arith, subst, sym, slice_index}
use Rattle.std.proofs.lemmas.List.{get_or_read}
use Rattle.pg_finders.proofs.recursion.OpenedVertices.{opened_none, opened_then, opened_below, opened_longer, opened_next, none_rests}
use Rattle.pg_finders.proofs.recursion.partition.Partition.open_before_listed.Goals as goal

pub list-init : goal.list-init
list-init c = record {
  partition = c.requires.partition;
  opened = opened_none c.args.won c.args.self.now c.args.list.now.items;
  inside = omega arith;
  none = λ k l v r. absurd (omega (arith, l));
}

pub open_before-requires-clause-vertex : goal.open_before-requires-clause-vertex
open_before-requires-clause-vertex c =
    let list = c.list.list.items in
    let n : c.len.result ≡ vec_len c.list.list = c.len.ensures in
    let l : c.list.next < length list = omega (arith, n, c.list.list.ok, c.if-next-len.false) in
    let e : c.index-to.result.now ≡ slice_index list c.list.next = get_or_read list c.list.next _ l c.index-to.ensures 0 in
    subst (λ u. u < length c.args.game.now) (sym e)
    (opened_below c.requires.partition c.list.invariant.opened c.requires.below c.list.next 0 l)

pub list-preserved : goal.list-preserved
list-preserved c =
    let list = c.list.list.items in
    let old = c.list.invariant in
    let h = c.in_ok-open_before.ensures in
    let n : c.len.result ≡ vec_len c.list.list = c.len.ensures in
    let l : c.list.next < length list = omega (arith, n, c.list.list.ok, c.if-next-len.false) in
    let e : c.index-to.result.now ≡ slice_index list c.list.next = get_or_read list c.list.next _ l c.index-to.ensures 0 in
    record {
      partition = h.partition;
      opened = opened_then old.opened h.opened;
      inside = omega (arith, l, opened_longer h.opened);
      none = opened_next c.args.game.now c.list.next c.index-to.result.now h.opened l e old.none h.none;
    }

pub returns-after-list-clause-none : goal.returns-after-list-clause-none
returns-after-list-clause-none c =
    let l : length c.list.list.items ≤ c.list.next = omega (arith, c.list-test.false, c.list.list.ok, c.list.list.small) in
    none_rests c.args.game.now c.args.won c.list.self 0 c.list.list.items c.list.next l (λ k m. c.list.invariant.none k)

pub returns-then-next-len-clause-none : goal.returns-then-next-len-clause-none
returns-then-next-len-clause-none c =
    let n : c.len.result ≡ vec_len c.list.list = c.len.ensures in
    let l : length c.list.list.items ≤ c.list.next = omega (arith, n, c.list.list.ok, c.if-next-len.true) in
    none_rests c.args.game.now c.args.won c.list.self 0 c.list.list.items c.list.next l (λ k m. c.list.invariant.none k)
