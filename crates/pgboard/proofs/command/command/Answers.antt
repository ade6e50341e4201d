use Rattle.std.proofs.Common.{rules, ◌≡◌, ◌∙◌, ap, true, codes}
use Rattle.clap.specs.Words.{App, app_of, new_app, with_subcommand}
use Rattle.clap.specs.Simple.{on_top}
use Rattle.pgboard.specs.Line.{solve_command, trace_command, verify_command, tidy_command}
use Rattle.pgboard.proofs.command.command.Goals as goal

abbrev alone : App
alone = on_top (λ s. record s { no_binary_name = true; has_version = true }) (new_app (codes "pgboard"))

pub returns : goal.returns
returns c =
    let alone_is : app_of c.in_ok-alone.alone ≡ alone = search rules in
    let solve = c.in_ok-with_solve.ensures solve_command c.solve_command.ensures ∙ ap (λ (a : App). with_subcommand a solve_command) alone_is in
    let trace = c.in_ok-with_trace.ensures trace_command c.trace_command.ensures ∙ ap (λ (a : App). with_subcommand a trace_command) solve in
    let verify = c.in_ok-with_verify.ensures verify_command c.verify_command.ensures ∙ ap (λ (a : App). with_subcommand a verify_command) trace in
    c.in_ok-with_tidy.ensures tidy_command c.tidy_command.ensures ∙ ap (λ (a : App). with_subcommand a tidy_command) verify
