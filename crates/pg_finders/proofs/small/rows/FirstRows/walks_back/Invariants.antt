use Rattle.pg_finders.proofs.Common.{◌≡◌, ℕ, ◌<◌, List, length, false, priority_of, In, members, Walk, how_many, Under, row_at}
use Rattle.pg_finders.proofs.small.rows.FirstRows.walks_back.Given as goal

abbrev pub invariant-rows : goal.invariant-rows
invariant-rows l = record {
  size : length l.left ≡ 8;
  start : In (members l.left) l.start;
  walks : (k : ℕ) → k < l.self.done → members l.left k ≡ false
      → (ws : List ℕ) × Walk (Under l.self.game.now l.self.player l.self.chosen.now l.self.done (priority_of l.self.game.now (row_at l.self.chosen.now l.start).0))
      (row_at l.self.chosen.now l.start).0 ws (row_at l.self.chosen.now k).0;
}

abbrev pub decreases-rows : goal.decreases-rows
decreases-rows l = how_many l.left
