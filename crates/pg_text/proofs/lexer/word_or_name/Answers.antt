use Rattle.pg_text.proofs.Common.{◌∙◌, sym, get_or, inl, rules}
use Rattle.std.proofs.lemmas.Slice.{between_to_end}
use Rattle.pg_text.proofs.lexer.TokenAtPlace.{name_found, run_bytes, word_at, word_lexeme, nothing_at, begins_none, plain_all}
use Rattle.pg_text.proofs.lexer.word_or_name.Goals as goal

pub returns-in-Some-clause-token : goal.returns-in-Some-clause-token
returns-in-Some-clause-token c = search (rules, name_found, c.requires.inside, c.if-first-eq34.true, between_to_end, c.in-Some.ensures)

pub returns-in-None-clause-token : goal.returns-in-None-clause-token
returns-in-None-clause-token c = search (rules, nothing_at, plain_all, c.requires.inside, c.if-first-eq34.true, between_to_end, c.in-None.ensures)

pub returns-then-is_letter-clause-token : goal.returns-then-is_letter-clause-token
returns-then-is_letter-clause-token c =
    let (run, r) = c.letters_end-to.ensures.run in
    let i = word_at c.args.text.now c.args.from c.requires.inside c.letters_end-to.result run r (sym c.is_letter.ensures ∙ c.if-is_letter.true) c.letters_end-to.ensures.ends in
    rw (c.word_kind.ensures, run_bytes r) (word_lexeme run i)

pub returns-clause-token : goal.returns-clause-token
returns-clause-token c = nothing_at c.args.text.now c.args.from c.requires.inside c.requires.solid
    (inl (begins_none (get_or c.args.text.now c.args.from 0) c.requires.no_digit
    (sym c.is_letter.ensures ∙ c.if-is_letter.false) c.if-first-eq34.false c.requires.no_comma c.requires.no_semicolon))
