use Rattle.std.proofs.Common.{rules, ◌≡◌, ◌∙◌, ℕ, Option, Some, ap, sym, arith}
use Rattle.std.specs.Prelude.{unwrap_or}
use Rattle.clap.specs.Words.{found_of}
use Rattle.pgboard.proofs.arguments.CommandLine.{number_read, number_given}
use Rattle.pgboard.proofs.arguments.number.Goals as goal
use Rattle.pgboard.proofs.arguments.number.Goals.{in-Some+else-least-n, else-least-n-via-then-least-n+else-n-most, else-least-n-via-else-least-n, in_default}

pub returns-then-n-most-clause-value : goal.returns-then-n-most-clause-value
returns-then-n-most-clause-value c =
    number_read (found_of c.args.given.now) c.args.name.now _ c.get_one.ensures.none c.get_one.ensures.value c.in-Some.n c.in-Some.is

pub returns-clause-taken : goal.returns-clause-taken
returns-clause-taken c n is least most =
    let given = number_given (found_of c.args.given.now) c.args.name.now _ c.get_one.ensures.none c.get_one.ensures.value n is
    (omega (arith, most, c.ranges.most.fits)) in
    elim c.match-get_one.branch [
      | in-Some+else-least-n w ↦ elim w.else-least-n.branch [
        | else-least-n-via-then-least-n+else-n-most w' ↦ let same : Some w.in-Some.n ≡ Some n = sym w.in-Some.is ∙ given in
            absurd (omega (arith, most, w'.if-n-most.false, ap (λ (o : Option ℕ). unwrap_or o 0) same))
        | else-least-n-via-else-least-n w' ↦ search (rules, given, w.in-Some.is, w'.if-least-n.false, arith)
      ]
      | in_default w ↦ search (rules, given, w.in_default)
    ]
