use Rattle.pg_board.proofs.Common.{rules}
use Rattle.pg_dominion.proofs.AttractionSteps.{IsDone-none}
use Rattle.pg_board.proofs.regions.WrittenRowSteps.{none_further}
use Rattle.pg_board.proofs.regions.Regions.attract.Goals as goal

pub attract_from-requires-clause-done : goal.attract_from-requires-clause-done
attract_from-requires-clause-done c = search (rules, IsDone-none, c.requires.subgame)

pub returns-then-is_full-clause-done : goal.returns-then-is_full-clause-done
returns-then-is_full-clause-done c = none_further c.args.game.now c.args.player c.args.self.now c.args.rows.now.items (c.requires.full c.if-is_full.true)
