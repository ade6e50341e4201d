use Rattle.pg_game.proofs.Common.{rules}
use Rattle.pg_game.proofs.identifiers.OwnPlaces.{own_are}
use Rattle.pg_game.proofs.builder.GamesInOrder.{none_repeated}
use Rattle.pg_game.proofs.NoMemory.{passed_on, only_memory}
use Rattle.pg_game.proofs.identifiers.Identifiers.of_rising.Goals as goal

pub invariant_of-result : goal.invariant_of-result
invariant_of-result c = search (rules, own_are, c.args.ids.now, c.are_own_places.ensures, c.if-are_own_places.true, c.requires)

pub returns-then-are_own_places-clause-identifiers : goal.returns-then-are_own_places-clause-identifiers
returns-then-are_own_places-clause-identifiers c = search (rules, own_are, c.args.ids.now, c.are_own_places.ensures, c.if-are_own_places.true)

pub returns-in_err-set-clause-memory : goal.returns-in_err-set-clause-memory
returns-in_err-set-clause-memory c = search (rules, none_repeated, passed_on, only_memory, c.args.ids.now, c.requires.rising, c.in_err-set.ensures.fault)
