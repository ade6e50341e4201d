use Rattle.pgboard.proofs.Common.{rules, append_assoc}
use Rattle.pgboard.proofs.trace.put_entry_head.Goals as goal

pub returns : goal.returns
returns c = search (rules, append_assoc)
