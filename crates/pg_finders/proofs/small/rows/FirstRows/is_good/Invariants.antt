use Rattle.pg_finders.proofs.Common.{◌≢◌, ℕ, ◌<◌, of_parity, priority_of, WalksBack, row_at}
use Rattle.pg_finders.proofs.small.rows.FirstRows.is_good.Given as goal

abbrev pub invariant-loop-start : goal.invariant-loop-start
invariant-loop-start l =
    (k : ℕ) → k < l.start → of_parity (priority_of l.self.game.now (row_at l.self.chosen.now k).0) ≢ l.self.player
    → WalksBack l.self.game.now l.self.player l.self.chosen.now l.self.done k → ⊥
