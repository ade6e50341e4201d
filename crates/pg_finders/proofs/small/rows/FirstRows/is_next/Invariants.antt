use Rattle.pg_finders.proofs.Common.{ℕ, ◌<◌, IsFrom, RowLeadsTo}
use Rattle.pg_finders.proofs.small.rows.FirstRows.is_next.Given as goal

abbrev pub invariant-loop-from : goal.invariant-loop-from
invariant-loop-from l = (k : ℕ) → k < l.from → IsFrom l.start l.left k → RowLeadsTo l.self.game.now l.self.player l.self.chosen.now k l.to → ⊥
