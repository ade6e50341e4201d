use Rattle.pg_text.proofs.Common.{arith, ◌∙◌, sym, ◌++◌, ◌∷◌, [], get_or, is_letter}
use Rattle.pg_text.proofs.lexer.ByteRuns.{run_more}
use Rattle.pg_text.proofs.lexer.letters_end.Goals as goal

pub letters-preserved : goal.letters-preserved
letters-preserved c = (
  omega arith,
  c.letters.invariant.1 ++ get_or c.args.text.now c.letters.to 0 ∷ [],
  run_more is_letter c.args.text.now c.args.from c.letters.to c.letters.invariant.1 c.letters.invariant.2 c.letters-test.true
      (sym c.is_letter.ensures ∙ c.if-is_letter.true),
)
