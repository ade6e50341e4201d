use Rattle.pg_finders.proofs.Common.{◌≡◌, length, arith, refl, ◌∙◌, sym, subst, below_more, slice_index}
use Rattle.pg_finders.proofs.Common.{get_or_default, Contains-get_or, settled_of}
use Rattle.pg_finders.specs.private.recursion.Partition.{RestsOn}
use Rattle.pg_finders.proofs.Sets.{no_both}
use Rattle.pg_finders.proofs.recursion.ListsAsSets.{in_drop}
use Rattle.pg_finders.proofs.recursion.OpenedVertices.{opened_none, opened_one, opened_partition, opened_row, opened_then}
use Rattle.pg_finders.proofs.recursion.partition.Partition.open_before.Goals.{then-rests_on+in_ok-push, else-rests_on}
use Rattle.pg_finders.proofs.recursion.partition.Partition.open_before.Goals as goal

pub loop-v-init : goal.loop-v-init
loop-v-init c = record {
  partition = c.requires.partition;
  opened = opened_none c.args.won c.args.self.now c.args.list.now.items;
  none = λ k l r. absurd (omega (arith, l));
}

pub rests_on-requires-clause-edge : goal.rests_on-requires-clause-edge
rests_on-requires-clause-edge c =
    let row = c.predecessors-v-items in
    (row.ensures.exact _).0 (Contains-get_or row.result.now c.loop-v.v-index 0 c.loop-v-test.true)

pub remove-requires-clause-listed : goal.remove-requires-clause-listed
remove-requires-clause-listed c = in_drop c.args.won.from (settled_of c.loop-v.self.settled c.args.won.player) _
    (c.rests_on.ensures.yes c.if-rests_on.true).0

pub loop-v-preserved : goal.loop-v-preserved
loop-v-preserved c =
    let g = c.args.game.now in
    let row = c.predecessors-v-items.result.now in
    let at = c.loop-v.v-index in
    let old = c.loop-v.invariant in
    elim c.if-rests_on.branch [
      | then-rests_on+in_ok-push w ↦ (
          let v = slice_index row at in
          let i = (c.rests_on.ensures.yes w.if-rests_on.true).0 in
          let settled = w.remove.new.self in
          let h = w.remove.ensures in
          let placed = h.placed (length g) old.partition.placed in
          rw (w.self-is, w.list-is) (rw (w.insert.ensures, w.in_ok-push.ensures.items) record {
            partition = opened_partition c.args.won old.partition v i settled placed h.own h.other;
            opened = opened_then old.opened (opened_one c.args.won old.partition v i settled placed h.own h.other c.loop-v.list.items);
            none = opened_row c.args.won old.partition v i settled placed h.own h.other g row at c.args.to refl old.none;
          }))
      | else-rests_on w ↦ rw (w.self-is, w.list-is) record {
        partition = old.partition;
        opened = old.opened;
        none = below_more _ _ old.none (λ r. no_both (c.rests_on.ensures.no r) w.if-rests_on.false);
      }
    ]

pub returns-clause-none : goal.returns-clause-none
returns-clause-none c v r =
    let us = c.predecessors-v-items.result.now in
    let m = (c.predecessors-v-items.ensures.exact v).1 r.1 in
    let q : slice_index us m.0 ≡ v = get_or_default us m.0 0 v m.1 ∙ m.2 in
    c.loop-v.invariant.none m.0 (omega (arith, m.1, c.loop-v-test.false))
    (subst (λ u. RestsOn c.args.game.now c.args.won c.loop-v.self u c.args.to) (sym q) r)
