use Rattle.pg_dominion.proofs.Common.{ℕ, ◌<◌, ◌≤◌, length, AreReached, IsSpread, GoesOn}
use Rattle.pg_dominion.proofs.cycles.Labels.finds_back.Given as goal

abbrev pub invariant-queue : goal.invariant-queue
invariant-queue l = record {
  least : 0 < l.search.first_repeated;
  state : AreReached l.self.kept.now l.self.levels.items l.self.groups.items l.top l.own l.search.places.items l.search.queue.items;
  later : GoesOn l.fn.search.queue.items l.fn.search.first_repeated l.search.queue.items l.search.first_repeated;
  within : l.next ≤ length l.search.queue.items;
  spread : (i : ℕ) → i < l.next
      → IsSpread l.self.kept.now l.self.levels.items l.self.groups.items l.top l.own l.search.first_repeated l.search.places.items l.search.queue.items i;
}
