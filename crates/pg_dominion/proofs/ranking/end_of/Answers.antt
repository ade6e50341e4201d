use Rattle.std.proofs.Common.{rules}
use Rattle.pg_dominion.proofs.ranking.end_of.Goals as goal

pub jumps-preserved : goal.jumps-preserved
jumps-preserved c = search rules
