use Rattle.pg_finders.proofs.Common.{take}
use Rattle.pg_finders.specs.private.recursion.Partition.{GivesActive}
use Rattle.pg_finders.proofs.recursion.partition.Partition.give_active.Given as goal

abbrev pub invariant-loop-v : goal.invariant-loop-v
invariant-loop-v l = GivesActive l.game l.won (take l.v-index l.vertices) l.fn.self l.self l.fn.list.items l.list.items
