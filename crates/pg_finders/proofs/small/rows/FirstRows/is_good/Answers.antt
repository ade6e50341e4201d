use Rattle.pg_finders.proofs.Common.{◌≢◌, arith, rules, of_parity, priority_of, row_at}
use Rattle.pg_finders.proofs.small.WayBack.{bad_back, good_back}
use Rattle.pg_finders.proofs.small.rows.FirstRows.is_good.Goals as goal

pub returns-then-walks_back-clause-bad : goal.returns-then-walks_back-clause-bad
returns-then-walks_back-clause-bad c = λ _.
    let n : of_parity (priority_of c.args.self.now.game.now (row_at c.args.self.now.chosen.now c.loop-start.start).0) ≢ c.args.self.now.player = search rules in
    bad_back c.args.self.now.game.now c.args.self.now.player c.args.self.now.chosen.now c.args.self.now.done c.args.self.now.within c.loop-start.start n
    (c.walks_back.ensures.back (search rules))

pub returns-clause-good : goal.returns-clause-good
returns-clause-good c =
    λ _. good_back c.args.self.now.game.now c.args.self.now.player c.args.self.now.chosen.now c.args.self.now.done c.args.self.now.within
    (λ k l. c.loop-start.invariant k (omega (arith, l, c.loop-start-test.false)))
