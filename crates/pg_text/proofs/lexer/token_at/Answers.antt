use Rattle.pg_text.proofs.Common.{◌∙◌, refl, sym, Comma, Semicolon}
use Rattle.pg_text.proofs.lexer.TokenAtPlace.{byte_at, number_at}
use Rattle.pg_text.proofs.lexer.token_at.Goals as goal

pub returns-then-is_digit-clause-token : goal.returns-then-is_digit-clause-token
returns-then-is_digit-clause-token c =
    number_at c.args.text.now c.args.from c.requires.inside c.read_number-value.ensures (sym c.is_digit.ensures ∙ c.if-is_digit.true)

pub returns-in-44-clause-token : goal.returns-in-44-clause-token
returns-in-44-clause-token c = (Comma, byte_at c.args.text.now c.args.from c.requires.inside Comma c.in-44.is refl tt, refl)

pub returns-in-59-clause-token : goal.returns-in-59-clause-token
returns-in-59-clause-token c = (Semicolon, byte_at c.args.text.now c.args.from c.requires.inside Semicolon c.in-59.is refl tt, refl)
