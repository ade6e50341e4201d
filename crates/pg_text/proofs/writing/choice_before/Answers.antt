use Rattle.std.proofs.Common.{rules}
use Rattle.pg_text.proofs.writing.NumberLists.{before_then}
use Rattle.pg_text.proofs.writing.choice_before.Goals as goal

pub returns-in-Some : goal.returns-in-Some
returns-in-Some c =
    let both = before_then c.number_before-at.ensures c.byte_before.ensures.line in
    record { written = search rules; near = both.near; before = both.before; kept = both.kept; size = both.size }
