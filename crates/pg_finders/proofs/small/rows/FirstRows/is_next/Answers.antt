use Rattle.pg_finders.proofs.Common.{inl, inr, arith, below_more}
use Rattle.pg_finders.proofs.small.rows.FirstRows.is_next.Goals as goal

pub loop-from-preserved : goal.loop-from-preserved
loop-from-preserved c = below_more _ _ c.loop-from.invariant (λ f m. (let y = c.leads.ensures.1 m in let n = c.if-leads.false in absurd (cc (y, n))))

pub returns-clause-none : goal.returns-clause-none
returns-clause-none c = λ _ h. c.loop-from.invariant h.0 (omega (arith, h.1, c.loop-from-test.false)) h.2 h.3

pub loop-from-preserved-then-left-from : goal.loop-from-preserved-then-left-from
loop-from-preserved-then-left-from c = below_more _ _ c.loop-from.invariant
    (λ f m. elim f [ inl q ↦ absurd (c.if-from-start.true q) | inr n ↦ (let y = c.if-left-from.true in absurd (cc (y, n))) ])
