use Rattle.pg_game.proofs.Common.{rules}
use Rattle.pg_game.proofs.Common.{not-false}
use Rattle.std.proofs.lemmas.Bool.{not-true}
use Rattle.pg_game.proofs.identifiers.FirstRepeated.{one_more, repeated_here, repeated_later}
use Rattle.pg_game.proofs.identifiers.index_set.Goals as goal

pub returns-then-not-branch-clause-fault : goal.returns-then-not-branch-clause-fault
returns-then-not-branch-clause-fault c = search (
  rules,
  not-false,
  repeated_here,
  c.args.ids.now,
  c.ids.id-index,
  c.ids.set.keys,
  c.in_ok-insert.ensures.added,
  c.if-not-branch.true,
  c.ids.invariant.keys,
  c.ids.invariant.left,
  c.ids-test.true,
)

pub ids-preserved : goal.ids-preserved
ids-preserved c = search (
  rules,
  not-true,
  repeated_later,
  one_more,
  c.args.ids.now,
  c.ids.id-index,
  c.ids.set.keys,
  c.in_ok-insert.ensures.added,
  c.if-not-branch.false,
  c.ids.invariant.keys,
  c.insert.new.self.keys,
  c.in_ok-insert.ensures.keys,
  c.ids-test.true,
  c.ids.invariant.left,
  c.in_ok-insert.ensures.unique,
)
