use Rattle.pg_text.proofs.Common.{arith, ◌++◌, ◌∷◌, [], rules, placed}
use Rattle.pg_text.proofs.lexer.TokenAtPlace.{token_ahead}
use Rattle.pg_text.proofs.reader.TokenRuns.{reaches_more, reaches_end, lexeme_token, of_kind}
use Rattle.pg_text.proofs.lexer.first_invalid.Goals as goal

pub returns-in-End-clause-place : goal.returns-in-End-clause-place
returns-in-End-clause-place c = search (rules, reaches_end, of_kind, c.in-End.is, c.next_token-lexeme.ensures.token)

pub tokens-smaller : goal.tokens-smaller
tokens-smaller c = search (rules, lexeme_token, c.next_token-lexeme.ensures.token, c.in_default.not-Invalid, c.in_default.not-End, token_ahead)

pub tokens-preserved : goal.tokens-preserved
tokens-preserved c =
    let p = c.next_token-lexeme.result in
    let t = lexeme_token p.kind c.args.text.now c.tokens.next p.from p.to c.next_token-lexeme.ensures.token c.in_default.not-Invalid c.in_default.not-End in
    let a = token_ahead c.args.text.now c.tokens.next p.from p.to t.0 t.1 in (
      a.1 (omega arith),
      c.tokens.invariant.1 ++ placed t.0 p.from ∷ [],
      reaches_more c.args.text.now c.args.at c.tokens.next p.from p.to c.tokens.invariant.1 t.0 c.tokens.invariant.2 t.1,
    )
