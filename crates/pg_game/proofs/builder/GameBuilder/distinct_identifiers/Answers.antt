use Rattle.pg_game.proofs.Common.{rules}
use Rattle.pg_game.proofs.Common.{length-map, length_permutation}
use Rattle.pg_game.proofs.builder.PickedSpecifications.{named_moves, named_rise}
use Rattle.pg_game.proofs.builder.GameBuilder.distinct_identifiers.Goals as goal

pub check_distinct-requires-clause-moved : goal.check_distinct-requires-clause-moved
check_distinct-requires-clause-moved c = rw (c.as_slice-ids.ensures.value, c.in_ok-list.ensures) (named_moves c.requires.lines.paired)

pub check_distinct-requires-clause-sorted : goal.check_distinct-requires-clause-sorted
check_distinct-requires-clause-sorted c = rw (c.as_slice-ids.ensures.value, c.in_ok-list.ensures) (named_rise c.args.lines.now c.requires.lines.rising)

pub of_rising-requires : goal.of_rising-requires
of_rising-requires c = search (
  rules,
  named_moves,
  length_permutation,
  length-map,
  c.as_slice-ids.ensures.value,
  c.in_ok-list.ensures,
  c.in_ok-check_distinct.ensures.rising,
  c.requires.lines.paired,
  c.args.self.now,
  c.requires.few,
)
