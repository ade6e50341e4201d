use Rattle.pg_finders.proofs.Common.{◌-◌, refl, ◌∙◌, ap, inl}
use Rattle.pg_finders.specs.private.recursion.GoingBack.{aside_of}
use Rattle.pg_finders.proofs.recursion.LoopSteps.{end_counts}
use Rattle.pg_finders.proofs.recursion.ShrunkPartition.{attract_apart, attract_at_most}
use Rattle.pg_finders.proofs.recursion.ShrunkSolver.{with_active, fits, below, IsFreed, shared, reopened}
use Rattle.pg_finders.proofs.recursion.Solver.lose.Goals as goal

pub aside-aside-requires : goal.aside-aside-requires
aside-aside-requires c = (fits c.requires c.deref.ensures.value).1

pub insert_all-requires : goal.insert_all-requires
insert_all-requires c = below c.requires (c.args.frame.set_aside_upto - c.args.frame.set_aside_from)
    (c.aside-aside.ensures ∙ ap (aside_of c.args.frame) c.deref.ensures.value) c.requires.running.sizes.active

abbrev Start : Type 0
Start = goal.After-attract-arg-2-1

freed : (c : Start) → IsFreed c.requires (with_active c.args.self.now.partition c.insert_all.new.mask)
freed c = reopened c.requires c.insert_all.new.mask (c.aside-aside.ensures ∙ ap (aside_of c.args.frame) c.deref.ensures.value)
    c.insert_all.ensures.length c.insert_all.ensures.has

pub attract-requires-clause-partition : goal.attract-requires-clause-partition
attract-requires-clause-partition c = (freed c).partition

pub attract-requires-clause-below : goal.attract-requires-clause-below
attract-requires-clause-below c = below c.requires (c.args.frame.set_aside_upto - c.args.frame.set_aside_from)
    (c.aside-aside.ensures ∙ ap (aside_of c.args.frame) c.deref.ensures.value) refl

pub attract-requires-clause-target : goal.attract-requires-clause-target
attract-requires-clause-target c = rw (c.tail-won.ensures, c.tail-lost.ensures, c.other.ensures)
    (record { side = inl refl; apart = attract_apart (shared c.requires) (freed c) })

pub attract-requires-clause-from : goal.attract-requires-clause-from
attract-requires-clause-from c = rw c.tail-lost.ensures (end_counts c.requires c.other.result)

pub attract-requires-clause-at_most : goal.attract-requires-clause-at_most
attract-requires-clause-at_most c = rw (c.tail-won.ensures, c.tail-lost.ensures, c.other.ensures, c.aside-aside.ensures, c.deref.ensures.value)
    (attract_at_most (shared c.requires) (freed c))

pub returns : goal.returns
returns c = record {
  loses = record {
    freed = with_active c.args.self.now.partition c.insert_all.new.mask;
    reopened = reopened c.requires c.insert_all.new.mask (c.aside-aside.ensures ∙ ap (aside_of c.args.frame) c.deref.ensures.value)
        c.insert_all.ensures.length c.insert_all.ensures.has;
    settled = refl;
    attracts = rw (c.tail-won.ensures, c.tail-lost.ensures, c.other.ensures) at c.in_ok-attract.ensures.attracts;
    partition = c.in_ok-attract.ensures.partition;
    kept = record { frames = refl; set_aside = refl; order = refl; opened = refl; size = refl };
  };
}
