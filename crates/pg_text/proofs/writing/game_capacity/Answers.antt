use Rattle.pg_text.proofs.Common.{rules}
use Rattle.pg_text.proofs.writing.Lengths.{long_lines}
use Rattle.pg_text.proofs.writing.game_capacity.Goals as goal

pub lines-preserved : goal.lines-preserved
lines-preserved c = search (
  rules,
  long_lines,
  c.args.game.now,
  c.lines.v,
  c.len-v-end.ensures.game.successors,
  c.successors.result.now,
  c.successors.ensures.all,
  c.saturating_add-capacity.result,
  c.lines.capacity,
  c.lines.invariant,
)
