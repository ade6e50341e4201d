use Rattle.pg_finders.proofs.Common.{sym, ◌∙◌, get_or}
use Rattle.std.proofs.Common.{◌%◌}
use Rattle.std.proofs.lemmas.Nat.Bits.{shr_and_one}
use Rattle.pg_finders.proofs.small.Bits.{no_bit}
use Rattle.pg_finders.proofs.small.rows.Chosen.has.Goals as goal

pub returns-then-bits-v-eq0 : goal.returns-then-bits-v-eq0
returns-then-bits-v-eq0 c =
    let words = c.self.inside.bits in
    let len = c.self.inside.len in
    sym (no_bit c.self.inside.rows c.args.self.now len words c.self.invariant.0 c.self.invariant.1 c.self.view_is c.args.v
    (sym (shr_and_one (get_or words len 0) (c.args.v % 64)) ∙ c.if-bits-v-eq0.true))
