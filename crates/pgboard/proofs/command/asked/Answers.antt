use Rattle.std.proofs.Common.{inl, inr, rules, ◌∙◌, ap, sym, subst, map}
use Rattle.std.specs.Prelude.{Result}
use Rattle.clap.specs.Words.{App, FailsBy, fault_of, takes}
use Rattle.clap.specs.declared.error.Error.{Error}
use Rattle.clap.specs.declared.parser.matches.ArgMatches.{ArgMatches}
use Rattle.pgboard.specs.Line.{program, IsRead}
use Rattle.pgboard.specs.declared.arguments.Asked.{Asked}
use Rattle.std.proofs.lemmas.Result.{IfOk-weaker}
use Rattle.pgboard.proofs.arguments.CommandLine.{asked_by, asked_for_help, fails_by, found_subcommand, helped, not_helped, read_by, some_word}
use Rattle.pgboard.proofs.command.asked.Goals as goal

pub returns-in-Ok-clause-words : goal.returns-in-Ok-clause-words
returns-in-Ok-clause-words c =
    let words = map (λ word. word.now) c.args.words.now in
    let found = found_subcommand _ words c.in-Ok.matches c.in_ok-command.ensures c.in-Ok.ensures.matches in
    IfOk-weaker c.from_matches.result _ _ (λ (asked : Asked) is. asked_by words asked (subst (λ f. IsRead f asked) found is)) c.from_matches.ensures.read

pub returns-in-Ok-clause-taken : goal.returns-in-Ok-clause-taken
returns-in-Ok-clause-taken c takes_them asked is range =
    let words = map (λ word. word.now) c.args.words.now in
    let found = found_subcommand _ words c.in-Ok.matches c.in_ok-command.ensures c.in-Ok.ensures.matches in
    let none = subst (λ (r : Result ArgMatches Error). FailsBy (fault_of program words) r) c.in-Ok.is
    (fails_by _ words c.try_get_matches_from.result c.in_ok-command.ensures c.try_get_matches_from.ensures.kinds) in
    let some = some_word c.args.words.now (λ e. search (rules, e)) in
    c.from_matches.ensures.taken asked (subst (λ f. IsRead f asked) (sym found) (read_by words asked some none is)) range

pub returns-in-Err-clause-words : goal.returns-in-Err-clause-words
returns-in-Err-clause-words c =
    let words = map (λ word. word.now) c.args.words.now in
    let has = subst (λ (r : Result ArgMatches Error). FailsBy (fault_of program words) r) c.in-Err.is
    (fails_by _ words c.try_get_matches_from.result c.in_ok-command.ensures c.try_get_matches_from.ensures.kinds) in
    helped words c.in-Err.error c.help_or_fault.result has c.help_or_fault.ensures.text c.help_or_fault.ensures.kind

pub returns-in-Err-clause-taken : goal.returns-in-Err-clause-taken
returns-in-Err-clause-taken c takes_them asked is range =
    let words = map (λ word. word.now) c.args.words.now in
    let memory = c.help_or_fault.ensures.memory (c.in-Err.ensures.passes (ap (λ (a : App). takes a words) c.in_ok-command.ensures ∙ takes_them)) in
    search (rules, memory)

pub returns-in-Ok-clause-helped : goal.returns-in-Ok-clause-helped
returns-in-Ok-clause-helped c help =
    let words = map (λ word. word.now) c.args.words.now in
    let none = subst (λ (r : Result ArgMatches Error). FailsBy (fault_of program words) r) c.in-Ok.is
    (fails_by _ words c.try_get_matches_from.result c.in_ok-command.ensures c.try_get_matches_from.ensures.kinds) in
    absurd (not_helped words none help)

pub returns-in-Err-clause-helped : goal.returns-in-Err-clause-helped
returns-in-Err-clause-helped c help =
    let words = map (λ word. word.now) c.args.words.now in
    let has = subst (λ (r : Result ArgMatches Error). FailsBy (fault_of program words) r) c.in-Err.is
    (fails_by _ words c.try_get_matches_from.result c.in_ok-command.ensures c.try_get_matches_from.ensures.kinds) in
    elim (asked_for_help words c.in-Err.error has help) [
      | inl memory ↦ let is = c.help_or_fault.ensures.memory memory in search (rules, is)
      | inr kind ↦ c.help_or_fault.ensures.helped kind
    ]
