use Rattle.pg_dominion.proofs.Common.{AreNoted, label_lists, reached_lists}
use Rattle.pg_dominion.proofs.cycles.note.Given as goal

abbrev pub invariant-queue : goal.invariant-queue
invariant-queue l =
    AreNoted (label_lists l.fn.levels.items l.fn.groups.items)
    (reached_lists l.search.places.items l.search.queue.items l.search.first_repeated) l.level l.start l.at
    (label_lists l.levels.items l.groups.items)
