use Rattle.pg_board.proofs.Common.{◌≡◌, ℕ, length, take, members, without, named}
use Rattle.pg_board.proofs.regions.remove_named.Given as goal

abbrev pub invariant-rows : goal.invariant-rows
invariant-rows l = record {
  length : length l.mask ≡ length l.initial.mask;
  members : (v : ℕ) → members l.mask v ≡ without (members l.initial.mask) (named (take l.row-index l.rows)) v;
}
