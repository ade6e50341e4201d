use Rattle.pg_dominion.proofs.Common.{◌≡◌, slice_index, sym, ◌∙◌, arith, eqb-true, get_or_read, priority_of}
use Rattle.pg_dominion.proofs.cycles.Labels.is_alone.Goals as goal

pub returns-then-index-priority : goal.returns-then-index-priority
returns-then-index-priority c = λ e.
    let v = c.args.v in
    let L = c.args.self.now.levels.items in
    let G = c.args.self.now.groups.items in
    let h = c.args.self.now.shown in
    let read : c.index.result.now ≡ slice_index L v = get_or_read L v _ (omega (arith, c.requires, h.levels_size)) c.index.ensures 0 in
    let r : c.index-then-index-priority.result.now ≡ slice_index G v
    = get_or_read G v _ (omega (arith, c.requires, h.groups_size)) c.index-then-index-priority.ensures 0 in
    h.alone (priority_of c.args.self.now.kept.now.game.now v) v (omega (arith, read, c.if-index-priority.true, c.priority.ensures)) (sym r ∙ eqb-true _ _ e)
