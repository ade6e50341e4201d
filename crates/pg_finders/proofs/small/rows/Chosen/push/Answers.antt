use Rattle.pg_finders.proofs.Common.{◌<◌, refl, ◌∙◌, arith, length-set, None, get_or}
use Rattle.pg_finders.proofs.small.FewRows.{view_length}
use Rattle.pg_finders.proofs.small.Bits.{bits_push}
use Rattle.pg_finders.proofs.small.rows.Chosen.push.Goals as goal

pub invariant_of-self : goal.invariant_of-self
invariant_of-self c =
    let rows = c.self.inside.rows in
    let len = c.self.inside.len in
    let words = c.self.inside.bits in
    let few = c.self.invariant.0 in
    let capacity : len < 8 = omega (arith, view_length rows c.args.self.now len few c.self.view_is, c.requires) in (
      record { size = length-set rows len (c.args.v, None) ∙ few.size; within = omega (arith, capacity) },
      bits_push rows len words c.args.v (get_or words len 0) few.size capacity c.self.invariant.1 refl,
    )
