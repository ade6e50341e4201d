use Rattle.pgboard.proofs.Common.{◌≡◌, ◌≤◌, ◌*◌, ◌^◌, take, number_settled}
use Rattle.pgboard.proofs.trace.settled_in.Given as goal

abbrev pub invariant-loop-entry : goal.invariant-loop-entry
invariant-loop-entry l = record {
  settled : l.settled ≡ number_settled (take l.entry-index l.entries);
  fits : l.settled ≤ l.entry-index * 2 ^ 63;
}
