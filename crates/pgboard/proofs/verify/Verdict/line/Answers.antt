use Rattle.std.proofs.Common.{rules}
use Rattle.pgboard.proofs.verify.Verdict.line.Goals as goal

pub returns-in_ok-extend_from_slice-in-Fails : goal.returns-in_ok-extend_from_slice-in-Fails
returns-in_ok-extend_from_slice-in-Fails c = search rules
