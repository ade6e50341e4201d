use Rattle.std.proofs.Common.{rules, ◌≡◌, refl, Some, codes, subst}
use Rattle.std.specs.Prelude.{List, Option}
use Rattle.clap.specs.Words.{Row, Text, found_of, rows_of, subcommand_rows_of}
use Rattle.pgboard.specs.Line.{IsRead}
use Rattle.pgboard.proofs.arguments.CommandLine.{flag_read, solving, verifying}
use Rattle.pgboard.proofs.arguments.Asked.from_matches.Goals as goal

pub returns-in_err-solution-in-Some-verify-default-clause-taken : goal.returns-in_err-solution-in-Some-verify-default-clause-taken
returns-in_err-solution-in-Some-verify-default-clause-taken c asked is range =
    let rows = rows_of (found_of c.in-Some-verify-default.given.now) in
    let found : subcommand_rows_of c.args.matches.now ≡ Some (codes "verify", rows) = search rules in
    let path = verifying rows asked (subst (λ (r : Option (Text × List Row)). IsRead r asked) found is) in
    let memory = c.in_err-solution-in-Some-verify-default.ensures.taken path.0 path.1 in
    search (rules, memory)

pub returns-in_err-bound-in-Some-solve-default-clause-taken : goal.returns-in_err-bound-in-Some-solve-default-clause-taken
returns-in_err-bound-in-Some-solve-default-clause-taken c asked is range =
    let rows = rows_of (found_of c.in-Some-solve-default.given.now) in
    let found : subcommand_rows_of c.args.matches.now ≡ Some (codes "solve", rows) = search rules in
    let bound = solving rows asked (subst (λ (r : Option (Text × List Row)). IsRead r asked) found is) range in
    let memory = c.in_err-bound-in-Some-solve-default.ensures.taken bound.number bound.given bound.low bound.high in
    search (rules, memory)

pub returns-in_ok-game-in-Some-solve-default-clause-read : goal.returns-in_ok-game-in-Some-solve-default-clause-read
returns-in_ok-game-in-Some-solve-default-clause-read c =
    let given = found_of c.in-Some-solve-default.given.now in
    let found : subcommand_rows_of c.args.matches.now ≡ Some (codes "solve", rows_of given) = search rules in
    rw found (
      refl,
      record {
        workers_are = c.in_ok-workers-in-Some-solve-default.ensures.value;
        bound_is = c.in_ok-bound-in-Some-solve-default.ensures.value;
        winners_are = flag_read given (codes "winners") _ c.get_flag-winners.ensures.value c.get_flag-winners.ensures.other;
        known_is = c.in_ok-known-in-Some-solve-default.ensures.value;
        game_is = c.in_ok-game-in-Some-solve-default.ensures.value;
      },
    )
