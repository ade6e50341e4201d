use Rattle.pg_finders.proofs.Common.{on_ok_weaker}
use Rattle.pg_finders.proofs.recursion.OpenedVertices.{opened_then, opened_below}
use Rattle.pg_finders.proofs.recursion.partition.Partition.open.Goals as goal

pub open_before_listed-requires-clause-below : goal.open_before_listed-requires-clause-below
open_before_listed-requires-clause-below c = opened_below c.requires.partition c.in_ok-open_before_taken.ensures.opened c.requires.below

pub returns-clause-opened : goal.returns-clause-opened
returns-clause-opened c =
    on_ok_weaker c.open_before_listed.result (opened_then c.in_ok-open_before_taken.ensures.opened) c.open_before_listed.ensures.opened
