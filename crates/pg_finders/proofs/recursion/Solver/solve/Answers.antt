use Rattle.pg_finders.proofs.Common.{rules, ◌∙◌, members, winners_of, choices_of}
use Rattle.pg_finders.proofs.DeadEnds.{subgame_of}
use Rattle.pg_finders.proofs.GoodClaims.{are_claims}
use Rattle.pg_finders.proofs.recursion.Solver.solve.Goals as goal

pub returns-clause-claims : goal.returns-clause-claims
returns-clause-claims c =
    let plan = c.run.new.self.partition.subgame.plan in
    let view = c.args.view.now in
    are_claims view.game.now (members view.mask.now) (winners_of plan) (choices_of plan) (subgame_of view.game.now view.mask.now view.size view.no_dead_end)
    (search (rules, c.in_ok-run.ensures.solved)) c.new.result c.new-2.result c.new.ensures.player c.new-2.ensures.player
    (c.new.ensures.rows ∙ c.in_ok-even.ensures.even) (c.new-2.ensures.rows ∙ c.in_ok-even.ensures.odd)
