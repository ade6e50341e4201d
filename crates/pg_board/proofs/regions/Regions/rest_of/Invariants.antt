use Rattle.pg_board.proofs.Common.{◌≡◌, ◌≤◌, length, take, rest_of, table_state}
use Rattle.std.proofs.Common.{vec_capacity}
use Rattle.pg_board.proofs.regions.Regions.rest_of.Given as goal

abbrev pub invariant-rows : goal.invariant-rows
invariant-rows l = record {
  rows : l.rest.items ≡ rest_of (table_state l.self.table.items) (take l.row-index l.row-items);
  spare : vec_capacity l.rest ≡ vec_capacity l.initial.rest;
  few : length l.rest.items ≤ l.row-index;
}
