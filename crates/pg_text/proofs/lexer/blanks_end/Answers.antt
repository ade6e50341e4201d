use Rattle.pg_text.proofs.Common.{arith, ◌∙◌, sym, ◌++◌, ◌∷◌, [], get_or, is_blank}
use Rattle.pg_text.proofs.lexer.ByteRuns.{run_more}
use Rattle.pg_text.proofs.lexer.blanks_end.Goals as goal

pub blanks-preserved : goal.blanks-preserved
blanks-preserved c = (
  omega arith,
  c.blanks.invariant.1 ++ get_or c.args.text.now c.blanks.to 0 ∷ [],
  run_more is_blank c.args.text.now c.args.from c.blanks.to c.blanks.invariant.1 c.blanks.invariant.2 c.blanks-test.true
      (sym c.is_blank.ensures ∙ c.if-is_blank.true),
)
