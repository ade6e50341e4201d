use Rattle.pg_finders.proofs.Common.{◌≡◌, ℕ, length, take, members, without, listed}
use Rattle.pg_finders.proofs.recursion.subgame.remove_all.Given as goal

abbrev pub invariant-loop-v : goal.invariant-loop-v
invariant-loop-v l = record {
  length : length l.mask ≡ length l.initial.mask;
  has : (v : ℕ) → members l.mask v ≡ without (members l.initial.mask) (listed (take l.v-index l.list)) v;
}
