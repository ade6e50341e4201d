use Rattle.pg_game.proofs.Common.{◌≡◌, take, drop, nat_eq, [], IsDistinct, first_repeated}
use Rattle.pg_game.proofs.identifiers.FirstRepeated.{earlier}
use Rattle.pg_game.specs.private.Seed.{seeded_by}
use Rattle.indexmap.specs.IndexSet.{hasher_of}
use Rattle.pg_game.proofs.identifiers.index_set.Given as goal

abbrev pub invariant-ids : goal.invariant-ids
invariant-ids l = record {
  left : first_repeated (earlier l.ids l.id-index) (drop l.id-index l.ids) ≡ first_repeated [] l.ids;
  keys : l.set.keys ≡ take l.id-index l.ids;
  distinct : IsDistinct nat_eq l.set.keys;
  seed : (hasher_of l.set).start ≡ seeded_by l.ids;
}
