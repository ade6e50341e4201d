use Rattle.pg_board.proofs.Common.{◌≡◌, ℕ, length, take, members, union, named}
use Rattle.pg_board.proofs.regions.insert_named.Given as goal

abbrev pub invariant-rows : goal.invariant-rows
invariant-rows l = record {
  length : length l.mask ≡ length l.initial.mask;
  members : (v : ℕ) → members l.mask v ≡ union (members l.initial.mask) (named (take l.row-index l.rows)) v;
}
