use Rattle.std.proofs.Common.{rules, ◌∙◌, sym}
use Rattle.clap.specs.Words.{found_of}
use Rattle.pgboard.proofs.arguments.CommandLine.{no_path, some_path}
use Rattle.pgboard.proofs.arguments.optional_path.Goals as goal

pub returns-in_err-path-clause-taken : goal.returns-in_err-path-clause-taken
returns-in_err-path-clause-taken c path is =
    let given = some_path (found_of c.args.given.now) c.args.name.now path (sym c.contains_id.ensures ∙ c.if-contains_id.true) is in
    let memory = c.in_err-path.ensures.taken given.0 given.1 in
    search (rules, memory)

pub returns-clause-value : goal.returns-clause-value
returns-clause-value c = no_path (found_of c.args.given.now) c.args.name.now (sym c.contains_id.ensures ∙ c.if-contains_id.false)
