use Rattle.pg_finders.proofs.Common.{ℕ, ◌<◌, IsReached}
use Rattle.pg_finders.proofs.small.rows.FirstRows.next_reached.Given as goal

abbrev pub invariant-loop-to : goal.invariant-loop-to
invariant-loop-to l = (k : ℕ) → k < l.to → IsReached l.self.game.now l.self.player l.self.chosen.now l.self.done l.start l.left k → ⊥
