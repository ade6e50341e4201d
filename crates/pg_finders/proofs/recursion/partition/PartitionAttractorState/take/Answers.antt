use Rattle.pg_finders.proofs.Common.{length, sym, subst}
use Rattle.pg_finders.specs.private.recursion.Partition.{FitsPartition}
use Rattle.pg_finders.proofs.recursion.FreeVertices.{leads_behind, put_grown}
use Rattle.pg_finders.proofs.recursion.partition.PartitionAttractorState.take.Goals as goal

pub returns-clause-grown : goal.returns-clause-grown
returns-clause-grown c =
    let puts = c.in_ok-put.ensures.puts in
    rw c.in_ok-put.ensures.items (
      c.in_ok-put.ensures.same,
      puts.fewer,
      λ first apart. put_grown first c.args.list.now.items c.requires.free puts
          (leads_behind first c.args.list.now.items apart c.requires.free c.requires.leads),
    )

pub returns-clause-ready : goal.returns-clause-ready
returns-clause-ready c = subst (λ t. FitsPartition (length c.args._game.now) t c.put.new.self c.put.new.list.items) (sym c.in_ok-put.ensures.same)
    (c.in_ok-put.ensures.fit (length c.args._game.now) c.requires.ready)
