use Rattle.pg_finders.proofs.Common.{below_more, rules}
use Rattle.pg_finders.proofs.small.rows.FirstRows.next_reached.Goals as goal

pub loop-to-preserved : goal.loop-to-preserved
loop-to-preserved c = below_more _ _ c.loop-to.invariant (λ h. absurd (c.is_next.ensures.none (search rules) h.3))
