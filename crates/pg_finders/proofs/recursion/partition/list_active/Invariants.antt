use Rattle.pg_finders.proofs.Common.{◌≡◌, ◌++◌, take, members}
use Rattle.std.specs.List.{filter}
use Rattle.pg_finders.proofs.recursion.partition.list_active.Given as goal

abbrev pub invariant-loop-v : goal.invariant-loop-v
invariant-loop-v l = record {
  list : l.list.items ≡ l.fn.list.items ++ filter (λ v. members l.active v) (take l.v-index l.vertices);
}
