use Rattle.pg_finders.proofs.Common.{◌≡◌, ◌∙◌, true, sym, ap, subst, slice_index, members, active_of, SameAt}
use Rattle.pg_finders.proofs.recursion.ListsAsSets.{listed_get}
use Rattle.pg_finders.proofs.recursion.GivenVertices.{gives_not, gives_one, written_partition}
use Rattle.pg_finders.proofs.recursion.partition.Partition.give_active.Goals as goal
use Rattle.pg_finders.proofs.recursion.partition.Partition.give_active.Goals.{then-has+in_ok-push, else-has}

pub loop-v-preserved : goal.loop-v-preserved
loop-v-preserved c =
    let vs = c.args.vertices.now in
    let i = c.loop-v.v-index in
    let v = slice_index vs i in
    let l = c.loop-v-test.true in
    let old = c.loop-v.invariant in
    let same : c.has.result ≡ active_of c.args.self.now.subgame v = c.has.ensures ∙ ap (λ m. members m v) old.active in
    elim c.if-has.branch [
      | then-has+in_ok-push w ↦ (
          let found = w.free_successor-choice.ensures in
          let written = w.write.ensures in
          let active : active_of c.args.self.now.subgame v ≡ true = sym same ∙ w.if-has.true in
          rw (w.self-is, w.list-is, w.in_ok-push.ensures.items) (gives_one vs i l old _ w.free_successor-choice.result active
          (c.requires.leads v (listed_get vs i 0 l) active) (record {
            partition = written_partition w.free_successor-choice.new.self w.write.new.self found.partition written.size;
            found = found.found;
            none = found.none;
            winner = written.winner;
            choice_is = written.choice;
            elsewhere = λ u n. subst (λ plan. SameAt plan w.write.new.self u) found.moved.plan (written.elsewhere u n);
            active = found.moved.active;
            settled = found.moved.settled;
          })))
      | else-has w ↦ rw (w.self-is, w.list-is) (gives_not vs i l old (sym same ∙ w.if-has.false))
    ]
