use Rattle.pg_game.proofs.Common.{◌≡◌, drop, first_without}
use Rattle.pg_game.proofs.builder.GameBuilder.first_without_successor.Given as goal

abbrev pub invariant-lines : goal.invariant-lines
invariant-lines l = first_without l.self ≡ first_without (drop l.v l.self)
