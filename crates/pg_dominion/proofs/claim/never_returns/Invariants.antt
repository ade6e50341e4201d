use Rattle.pg_dominion.proofs.Common.{ℕ, ◌<◌, ◌≤◌, length, slice_index, AreNamed, LeadsToListed}
use Rattle.pg_dominion.proofs.claim.never_returns.Given as goal

abbrev pub invariant-list : goal.invariant-list
invariant-list l = record {
  all : AreNamed l.claim.rows l.list.items;
  first : LeadsToListed l.game l.claim.player l.claim.rows l.start l.list.items l.start;
  rest : (i : ℕ) → i < l.next → LeadsToListed l.game l.claim.player l.claim.rows l.start l.list.items (slice_index l.list.items i);
  within : l.next ≤ length l.list.items;
}
