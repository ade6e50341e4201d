use Rattle.pg_finders.proofs.Common.{ℕ, ◌<◌, slice_index, priority_of, In, members, AreLeading, EdgeBelow, IsQueue, Follows}
use Rattle.pg_finders.proofs.solitaire.reach_back.Given as goal

abbrev pub invariant-edges : goal.invariant-edges
invariant-edges l = record {
  state : AreLeading l.view.game.now (members l.view.mask.now) (priority_of l.view.game.now l.goal) l.goal l.lead.taken l.lead.next.items;
  queue : IsQueue l.view.game.now l.goal l.lead.taken l.queue.items;
  follows : Follows l.fn.lead.taken l.fn.queue.items l.lead.taken l.queue.items;
  seen : (k : ℕ) → k < l.from-index → EdgeBelow l.view.game.now (members l.view.mask.now) (priority_of l.view.game.now l.goal) (slice_index l.from-items k) l.to
      → In (members l.lead.taken) (slice_index l.from-items k);
}
