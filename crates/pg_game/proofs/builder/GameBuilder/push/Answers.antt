use Rattle.pg_game.proofs.Common.{rules}
use Rattle.pg_game.proofs.builder.PushedParts.{specs_more}
use Rattle.pg_game.proofs.builder.GameBuilder.push.Goals as goal

pub returns-clause-pushed : goal.returns-clause-pushed
returns-clause-pushed c = search (
  rules,
  specs_more,
  c.args.id,
  c.args.priority,
  c.args.owner,
  c.args.successors.now,
  c.self.invariant,
  c.self.view_is,
  c.in_ok-push.ensures.pushed,
)
