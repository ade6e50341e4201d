use Rattle.pg_game.proofs.Common.{◌≡◌, take, slice_index_or, map, Spec, specs_from}
use Rattle.pg_game.proofs.builder.GameBuilder.picked.Given as goal

abbrev pub invariant-lines : goal.invariant-lines
invariant-lines l =
    (d : Spec) → l.specs ≡ map (λ line. slice_index_or
    (specs_from l.self-inside.ids.items l.self-inside.priorities.items l.self-inside.owners.items l.self-inside.rows) line.1 d) (take l.line-index l.lines)
