use Rattle.pg_text.proofs.lexer.TokenAtPlace.{lexeme_past}
use Rattle.pg_text.proofs.lexer.next_token.Goals as goal

pub returns-clause-token : goal.returns-clause-token
returns-clause-token c =
    let (blanks, b) = c.blanks_end-from.ensures.run in
    let (k, to) = c.token_at-kind.result in
    lexeme_past k c.args.text.now c.args.at c.blanks_end-from.result c.blanks_end-from.result to blanks b c.token_at-kind.ensures.token
