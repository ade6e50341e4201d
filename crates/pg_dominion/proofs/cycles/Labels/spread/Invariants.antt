use Rattle.pg_dominion.proofs.Common.{ℕ, ◌<◌, ◌≤◌, slice_index, priority_of, AreReached, IsFollowed, GoesOn}
use Rattle.pg_dominion.proofs.cycles.Labels.spread.Given as goal

abbrev pub invariant-row : goal.invariant-row
invariant-row l = record {
  least : 0 < l.search.first_repeated;
  state : AreReached l.self.kept.now l.self.levels.items l.self.groups.items l.top l.own l.search.places.items l.search.queue.items;
  later : GoesOn l.fn.search.queue.items l.fn.search.first_repeated l.search.queue.items l.search.first_repeated;
  spread : (i : ℕ) → i < l.w-index → priority_of l.self.kept.now.game.now (slice_index l.row i) ≤ l.top
      → IsFollowed l.self.levels.items l.self.groups.items l.top l.own l.search.first_repeated l.search.places.items l.search.queue.items l.at
      (slice_index l.row i);
}
