use Rattle.pgboard.proofs.Common.{◌≡◌, ◌++◌, drop, entries_text}
use Rattle.pgboard.proofs.trace.put_entries.Given as goal

abbrev pub invariant-loop-i : goal.invariant-loop-i
invariant-loop-i l = l.out.items ++ entries_text l.game l.i (drop l.i l.entries) ≡ l.fn.out.items ++ entries_text l.game 0 l.entries
