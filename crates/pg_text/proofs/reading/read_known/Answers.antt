use Rattle.std.proofs.Common.{rules}
use Rattle.pg_text.proofs.reading.read_known.Goals as goal

pub returns-clause-rows : goal.returns-clause-rows
returns-clause-rows c = search rules
