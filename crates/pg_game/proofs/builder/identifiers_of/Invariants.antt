use Rattle.pg_game.proofs.Common.{◌≡◌, map, take}
use Rattle.pg_game.proofs.builder.identifiers_of.Given as goal

abbrev pub invariant-lines : goal.invariant-lines
invariant-lines l = l.ids.items ≡ map (λ line. line.0) (take l.line-index l.lines)
