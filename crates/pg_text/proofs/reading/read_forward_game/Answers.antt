use Rattle.std.proofs.Common.{rules}
use Rattle.pg_text.proofs.Common.{◌≡◌, ℕ, true, List, [], ◌∷◌, map, flat_map, leb-true, Spec, fits, AllFit, WrittenGameLine}
use Rattle.pg_text.proofs.Common.{game_line_tokens, spec_of}
use Rattle.std.specs.Prelude.{All}
use Rattle.std.proofs.lemmas.List.Elements.{All-nil}
use Rattle.pg_game.specs.Specification.{AreNumbers}
use Rattle.pg_game.proofs.AllElements.{all-back}
use Rattle.pg_text.specs.private.GameReads.{SaysSpecs}
use Rattle.pg_text.specs.private.Parsing.{SpellsLines}
use Rattle.pg_text.proofs.reading.read_forward_game.Goals as goal

-- where the numbers of the tokens fit, those of the lines do
specs_fit : (lines : List WrittenGameLine) → AllFit (flat_map game_line_tokens lines) → All AreNumbers (map spec_of lines)
specs_fit [] a = All-nil AreNumbers
specs_fit (l ∷ lines) a =
    search (rules, specs_fit lines (all-back (λ t. fits t ≡ true) (game_line_tokens l) (flat_map game_line_tokens lines) a), leb-true, all-back)

are_numbers : (text : List ℕ) (specs : List Spec) → SpellsLines SaysSpecs text specs → All AreNumbers specs
are_numbers text specs s = let (lines, i, (e, o)) = s.says in search (rules, i.tokens, s.numbers, all-back, specs_fit)

pub from_builder-requires : goal.from_builder-requires
from_builder-requires c = are_numbers c.args.text.now c.in_ok-specs.specs c.in_ok-specs.ensures

pub returns-in-Err-Memory-clause-fault : goal.returns-in-Err-Memory-clause-fault
returns-in-Err-Memory-clause-fault c = search rules
