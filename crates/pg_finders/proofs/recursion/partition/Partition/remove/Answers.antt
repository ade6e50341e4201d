use Rattle.pg_finders.proofs.Common.{◌≡◌, ◌∙◌, false, arith, sym, active_of}
use Rattle.pg_finders.proofs.recursion.FreeVertices.{settled_free, free_below, unset_partition, unset_free, unset_fewer, unsettled_partition, unsettled_free, unsettled_fewer}
use Rattle.pg_finders.proofs.recursion.partition.Partition.remove.Goals as goal

pub has-requires : goal.has-requires
has-requires c = let l = free_below c.args.free c.requires.partition.1 c.args.v c.requires.free in omega (arith, l, c.requires.partition.1.sizes.active)

pub returns-then-has-clause-partition : goal.returns-then-has-clause-partition
returns-then-has-clause-partition c = λ n a. rw c.remove.ensures (unset_partition c.args.free a c.args.v (sym c.has.ensures ∙ c.if-has.true))

pub returns-then-has-clause-fewer : goal.returns-then-has-clause-fewer
returns-then-has-clause-fewer c = rw c.remove.ensures (unset_fewer c.args.free c.requires.partition.1 c.args.v (sym c.has.ensures ∙ c.if-has.true))

pub returns-then-has-clause-free : goal.returns-then-has-clause-free
returns-then-has-clause-free c = rw c.remove.ensures (unset_free c.args.free c.requires.partition.1 c.args.v (sym c.has.ensures ∙ c.if-has.true))

pub returns-clause-partition : goal.returns-clause-partition
returns-clause-partition c = λ n a.
    let m : active_of c.args.self.now.subgame c.args.v ≡ false = sym c.has.ensures ∙ c.if-has.false in
    unsettled_partition c.args.free a c.args.v m (settled_free c.args.free a c.args.v c.requires.free m) c.remove-2.new.self (c.remove-2.ensures.placed n a.placed)
    c.remove-2.ensures.own c.remove-2.ensures.other

pub returns-clause-fewer : goal.returns-clause-fewer
returns-clause-fewer c =
    let a = c.requires.partition.1 in
    let m : active_of c.args.self.now.subgame c.args.v ≡ false = sym c.has.ensures ∙ c.if-has.false in
    unsettled_fewer c.args.free a c.args.v m (settled_free c.args.free a c.args.v c.requires.free m) c.remove-2.new.self (c.remove-2.ensures.placed c.requires.partition.0 a.placed)
    c.remove-2.ensures.own c.remove-2.ensures.other

pub returns-clause-free : goal.returns-clause-free
returns-clause-free c =
    let a = c.requires.partition.1 in
    let m : active_of c.args.self.now.subgame c.args.v ≡ false = sym c.has.ensures ∙ c.if-has.false in
    unsettled_free c.args.free a c.args.v m (settled_free c.args.free a c.args.v c.requires.free m) c.remove-2.new.self (c.remove-2.ensures.placed c.requires.partition.0 a.placed)
    c.remove-2.ensures.own c.remove-2.ensures.other
