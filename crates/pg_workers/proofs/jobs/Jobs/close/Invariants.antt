use Rattle.pg_workers.proofs.Common.{◌≡◌, ◌+◌, [], ◌++◌, length, map, flat_map, count_by, vec_len, vec_capacity, into_iter_items, into_iter_len}
use Rattle.pg_workers.proofs.jobs.Jobs.close.Given as goal

-- the seat has the first ticket and those that the loop has taken, and the list has what they drew
abbrev pub invariant-loop-ticket : goal.invariant-loop-ticket
invariant-loop-ticket l = record {
  tickets : l.yielded ++ into_iter_items l.ticket-iterator ≡ into_iter_items l.initial.ticket-iterator;
  rest : into_iter_len l.ticket-iterator ≡ length (into_iter_items l.ticket-iterator);
  table : l.seat.table_id ≡ l.initial.seat.table_id;
  no_view : l.seat.me.1 ≡ [];
  joined : l.seat.me.0.tickets ≡ 1 + length l.yielded;
  told_none : l.seat.me.0.told_none ≡ l.initial.seat.me.0.told_none + count_by (λ t. t.told_none) l.yielded;
  drawn : l.seat.me.0.drawn ≡ l.initial.seat.me.0.drawn ++ flat_map (λ t. t.numbers) l.yielded;
  all_numbers : map (λ d. d.numbers.items) l.spare.items ≡ map (λ d. d.numbers.items) l.initial.spare.items ++ map (λ t. t.numbers) l.yielded;
  all_told : map (λ d. d.told_none) l.spare.items ≡ map (λ d. d.told_none) l.initial.spare.items ++ map (λ t. t.told_none) l.yielded;
  number : vec_len l.spare ≡ 1 + length l.yielded;
  capacity : vec_capacity l.spare ≡ vec_capacity l.initial.spare;
}
