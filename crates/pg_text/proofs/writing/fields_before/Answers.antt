use Rattle.std.proofs.Common.{rules}
use Rattle.pg_text.proofs.writing.NumberLists.{before_then}
use Rattle.pg_text.proofs.writing.fields_before.Goals as goal

pub returns : goal.returns
returns c =
    let all = before_then (before_then c.field_before-owner.ensures c.field_before-priority.ensures) c.field_before.ensures in
    record { written = search rules; near = all.near; before = all.before; kept = all.kept; size = all.size }
