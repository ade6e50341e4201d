use Rattle.pg_text.proofs.Common.{arith, ◌∙◌, sym, ◌++◌, ◌∷◌, [], get_or, is_digit, cases_lt, rules}
use Rattle.pg_text.proofs.lexer.ByteRuns.{run_more, counts_more, value-push}
use Rattle.pg_text.proofs.lexer.long_number.Goals.{then-value-le-GREATEST, else-value-le-GREATEST}
use Rattle.pg_text.proofs.lexer.long_number.Goals as goal

pub digits-preserved : goal.digits-preserved
digits-preserved c = (
  omega arith,
  c.digits.invariant.1 ++ get_or c.args.text.now c.digits.to 0 ∷ [],
  run_more is_digit c.args.text.now c.args.from c.digits.to c.digits.invariant.1 c.digits.invariant.2 c.digits-test.true
      (sym c.is_digit.ensures ∙ c.if-is_digit.true),
  (elim c.if-value-le-GREATEST.branch [
    | then-value-le-GREATEST w ↦
        rw w.value-is (counts_more c.digits.value (get_or c.args.text.now c.digits.to 0) _ c.digits.invariant.1 c.digits.invariant.3 (omega arith)
        (omega (arith, c.type_inv.text c.digits.to)) w.from.ensures)
    | else-value-le-GREATEST w ↦
        rw w.value-is (search (rules, cases_lt, value-push))
  ]),
)
