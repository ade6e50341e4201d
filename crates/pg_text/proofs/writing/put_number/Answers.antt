use Rattle.pg_text.proofs.Common.{rules}
use Rattle.pg_text.proofs.Numerals.{decimal_is_numeral}
use Rattle.pg_text.proofs.writing.put_number.Goals as goal

pub returns : goal.returns
returns c = search (rules, decimal_is_numeral)
