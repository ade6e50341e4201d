use Rattle.pg_finders.proofs.Common.{refl, arith}
use Rattle.pg_finders.proofs.small.rows.Chosen.new.Goals as goal

pub invariant_of-result : goal.invariant_of-result
invariant_of-result c = (record { size = refl; within = omega arith }, record { size = refl; each = λ j k l m. absurd (omega (arith, l, m)) })
