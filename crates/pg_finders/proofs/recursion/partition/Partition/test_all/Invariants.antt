use Rattle.pg_finders.proofs.Common.{take}
use Rattle.pg_finders.specs.private.recursion.Partition.{HasTested}
use Rattle.pg_finders.proofs.recursion.partition.Partition.test_all.Given as goal

abbrev pub invariant-loop-v : goal.invariant-loop-v
invariant-loop-v l = HasTested l.game l.free l.target (take l.v-index l.vertices) l.fn.self l.fn.list.items l.self l.list.items
