use Rattle.pg_game.proofs.Common.{◌≡◌, take}
use Rattle.pg_game.proofs.builder.GameBuilder.of_list.Given as goal

abbrev pub invariant-list : goal.invariant-list
invariant-list l = l.specs ≡ take l.spec-index l.list
