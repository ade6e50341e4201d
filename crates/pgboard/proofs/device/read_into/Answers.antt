use Rattle.pgboard.proofs.Common.{take, ap, ◌∙◌, rules, arith, with_items_is, places}
use Rattle.pgboard.proofs.device.Pieces.{filled_more}
use Rattle.pgboard.proofs.device.read_into.Goals as goal

pub reads-preserved : goal.reads-preserved
reads-preserved g c =
    let before = c.reads.invariant in
    let read = c.in-Ok.ensures in
    let prefix = read.prefix ∙ ap (take c.reads.filled) c.as_mut_slice.ensures.value ∙ c.in_ok-grow.ensures.prefix in
    let more = filled_more _ _ _ c.reads.text.items c.read_after.new.text c.reads.filled c.in-Ok.n prefix before.read read.bytes in
    rw (with_items_is c.grow.new.text c.read_after.new.text (search (rules, places))) record {
      read = more;
      within = search (rules, places);
      limit = omega arith;
      failures = read.failures ∙ before.failures;
    }

pub returns-then-n-eq0-clause-limit : goal.returns-then-n-eq0-clause-limit
returns-then-n-eq0-clause-limit g c = search rules

pub returns-in_default-clause-text : goal.returns-in_default-clause-text
returns-in_default-clause-text g c = search rules

pub returns-in_default-clause-limit : goal.returns-in_default-clause-limit
returns-in_default-clause-limit g c = search rules

pub returns-in_default-clause-reads : goal.returns-in_default-clause-reads
returns-in_default-clause-reads g c = search rules
