use Rattle.std.proofs.Common.{rules}
use Rattle.clap.proofs.WalkLemmas.{first_value-rows}
use Rattle.pgboard.proofs.arguments.path.Goals as goal

pub returns-in_ok-from_str-in-Some-clause-value : goal.returns-in_ok-from_str-in-Some-clause-value
returns-in_ok-from_str-in-Some-clause-value c = search (rules, first_value-rows)

pub returns-in-None-clause-taken : goal.returns-in-None-clause-taken
returns-in-None-clause-taken c path is = search (rules, first_value-rows, is)
