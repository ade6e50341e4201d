use Rattle.pg_text.proofs.Common.{rules}
use Rattle.std.proofs.lemmas.Fmt.{length-decimal-le}
use Rattle.pg_text.proofs.Numerals.{decimal_is_numeral}
use Rattle.pg_text.proofs.writing.number_before.Goals as goal

pub write_digits-requires : goal.write_digits-requires
write_digits-requires c = search (rules, length-decimal-le 10)

pub returns : goal.returns
returns c = search (rules, length-decimal-le 10, decimal_is_numeral)
