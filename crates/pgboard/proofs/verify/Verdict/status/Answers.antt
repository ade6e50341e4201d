use Rattle.std.proofs.Common.{rules}
use Rattle.pgboard.proofs.verify.Verdict.status.Goals as goal

pub returns-in-Fails : goal.returns-in-Fails
returns-in-Fails c = search rules
