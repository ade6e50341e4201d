use Rattle.std.proofs.Common.{rules}
use Rattle.pg_text.proofs.Common.{◌≡◌, ◌+◌, ◌++◌, ◌∷◌, [], ℕ, get_or, sym, subst, ◌∙◌, arith, true, false, drop_more, is_digit, IsRun}
use Rattle.pg_text.proofs.lexer.ByteRuns.{run_more, digits_more}
use Rattle.pg_text.proofs.lexer.short_number.Goals as goal

pub digits-preserved : goal.digits-preserved
digits-preserved c =
    let text = c.args.text.now in
    let at = c.args.from + c.digits.k in
    let (below, run, is_run, value) = c.digits.invariant in
    let d = get_or text at 0 in
    let t : is_digit d ≡ true = sym c.is_digit.ensures ∙ c.if-not-is_digit.false in
    let more = run_more is_digit text c.args.from at run is_run (omega (arith, c.digits-test.true, c.requires)) t in
    let (small, same) = digits_more c.digits.value c.digits.k d c.from.result run below value t c.from.ensures in
    (small, run ++ d ∷ [], subst (λ (to : ℕ). IsRun is_digit text c.args.from to (run ++ d ∷ [])) (omega arith) more, same)

pub overflow_cast-result : goal.overflow_cast-result
overflow_cast-result c = search rules

pub returns-then-not-is_digit : goal.returns-then-not-is_digit
returns-then-not-is_digit c =
    let none : is_digit (get_or c.args.text.now (c.args.from + c.digits.k) 0) ≡ false = search rules in
    record {
      run = search rules;
      within = omega (arith, c.requires);
      ends = rw (drop_more c.args.text.now (c.args.from + c.digits.k) 0 (omega (arith, c.digits-test.true, c.requires))) none;
    }
