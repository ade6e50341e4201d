use Rattle.pg_dominion.proofs.Common.{◌≡◌, ◌≢◌, ℕ, ◌<◌, ◌≤◌, ◌++◌, List, slice_index, Contains, priority_of, In, named, AreNamed}
use Rattle.pg_dominion.proofs.claim.expand.Given as goal

abbrev pub invariant-ends : goal.invariant-ends
invariant-ends l = record {
  within : AreNamed l.claim.rows l.list.items;
  longer : (more : List ℕ) × (l.list.items ≡ l.fn.list.items ++ more);
  stays : (i : ℕ) → i < l.end-index → In (named l.claim.rows) (slice_index l.ends i)
      → priority_of l.game (slice_index l.ends i) ≤ priority_of l.game l.start
      → (slice_index l.ends i ≢ l.start) × Contains l.list.items (slice_index l.ends i);
}
