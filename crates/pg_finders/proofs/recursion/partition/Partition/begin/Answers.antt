use Rattle.pg_finders.proofs.Common.{◌≡◌, length, vec_len, arith}
use Rattle.pg_finders.proofs.recursion.BegunPartition.{GivesTops, tops_within, tops_ready, tops_below, tops_open, again_partition, begins_again}
use Rattle.pg_finders.proofs.recursion.partition.Partition.begin.Goals as goal

pub remove_all-requires : goal.remove_all-requires
remove_all-requires c = tops_within c.args.game.now c.args.won c.args.vertices.now c.args.self.now c.give_active.new.self c.clear.new.self.items
    c.give_active.new.list.items c.deref.result.now c.in_ok-give_active.ensures c.clear.ensures.items c.deref.ensures.value

abbrev Start : Type 0
Start = goal.After-attract_from-arg-2-1

tops : (c : Start) → GivesTops c.args.game.now c.args.won c.args.vertices.now c.args.self.now c.give_active.new.self c.remove_all.new.mask
    c.clear.new.self.items c.give_active.new.list.items c.deref.result.now
tops c = record {
  partition = c.requires.partition;
  once = c.requires.once;
  others = c.requires.others;
  gives = c.in_ok-give_active.ensures;
  none = c.clear.ensures.items;
  same_list = c.deref.ensures.value;
  same_length = c.remove_all.ensures.length;
  left = c.remove_all.ensures.has;
}

pub attract_from-requires-clause-ready : goal.attract_from-requires-clause-ready
attract_from-requires-clause-ready c = tops_ready (tops c) c.end-self.result c.end-self.ensures.player c.end-self.ensures.from

pub attract_from-requires-clause-below : goal.attract_from-requires-clause-below
attract_from-requires-clause-below c = tops_below (tops c) c.end-self.result c.end-self.ensures.player c.end-self.ensures.from

pub attract_from-requires-clause-done : goal.attract_from-requires-clause-done
attract_from-requires-clause-done c = tops_open (tops c) c.end-self.result c.end-self.ensures.player c.end-self.ensures.from

tops_after : (c : goal.In_ok-attract_from) → GivesTops c.args.game.now c.args.won c.args.vertices.now c.args.self.now c.give_active.new.self
    c.remove_all.new.mask c.clear.new.self.items c.give_active.new.list.items c.deref.result.now
tops_after c = record {
  partition = c.requires.partition;
  once = c.requires.once;
  others = c.requires.others;
  gives = c.in_ok-give_active.ensures;
  none = c.clear.ensures.items;
  same_list = c.deref.ensures.value;
  same_length = c.remove_all.ensures.length;
  left = c.remove_all.ensures.has;
}

pub returns-clause-partition : goal.returns-clause-partition
returns-clause-partition c =
    let h = c.in_ok-attract_from.ensures in
    again_partition (tops_after c) c.end-self.result c.end-self.ensures.player c.end-self.ensures.from h.grown h.ready h.done

pub returns-clause-begins : goal.returns-clause-begins
returns-clause-begins c =
    let h = c.in_ok-attract_from.ensures in
    let a : c.len-tops.result ≡ vec_len c.give_active.new.list = c.len-tops.ensures in
    let k : c.len-tops.result ≡ length c.give_active.new.list.items = omega (arith, a, c.give_active.new.list.ok) in
    rw k (begins_again (tops_after c) c.end-self.result c.end-self.ensures.player c.end-self.ensures.from h.grown h.ready h.done)
