use Rattle.pg_finders.proofs.Common.{ℕ, ◌<◌, ◌≤◌, length, slice_index, priority_of, members, AreLeading, IsSeen, IsQueue}
use Rattle.pg_finders.proofs.solitaire.lead_to.Given as goal

abbrev pub invariant-queue : goal.invariant-queue
invariant-queue l = record {
  state : AreLeading l.view.game.now (members l.view.mask.now) (priority_of l.view.game.now l.goal) l.goal l.lead.taken l.lead.next.items;
  queue : IsQueue l.view.game.now l.goal l.lead.taken l.queue.items;
  done : (i : ℕ) → i < l.at → IsSeen l.view.game.now (members l.view.mask.now) (priority_of l.view.game.now l.goal) (members l.lead.taken) (slice_index l.queue.items i);
  within : l.at ≤ length l.queue.items;
}
