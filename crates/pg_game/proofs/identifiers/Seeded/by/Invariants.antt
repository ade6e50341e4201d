use Rattle.pg_game.proofs.Common.{◌≡◌, take}
use Rattle.pg_game.specs.private.Seed.{read_all}
use Rattle.pg_game.proofs.identifiers.Seeded.by.Given as goal

abbrev pub invariant-ids : goal.invariant-ids
invariant-ids l = l.sum ≡ read_all (take l.id-index l.ids)
