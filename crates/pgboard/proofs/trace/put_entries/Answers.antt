use Rattle.pgboard.proofs.Common.{length, sym, subst, AllByRecursion, all_at, Entry, NamesVertices}
use Rattle.pgboard.proofs.trace.ItemTexts.{one_entry_more}
use Rattle.pgboard.proofs.trace.put_entries.Goals as goal

pub put_entry-requires : goal.put_entry-requires
put_entry-requires c =
    subst (λ (e : Entry). AllByRecursion (NamesVertices (length c.args.game.now)) e.rows) (sym c.index-entries-i.is)
    (all_at (λ (e : Entry). AllByRecursion (NamesVertices (length c.args.game.now)) e.rows) c.args.entries.now c.loop-i.i c.index-entries-i.result
    c.requires c.loop-i-test.true)

pub loop-i-preserved : goal.loop-i-preserved
loop-i-preserved c =
    one_entry_more c.args.game.now c.args.entries.now c.loop-i.i c.index-entries-i.result c.loop-i.out.items c.put_entry.new.out.items _
    c.loop-i-test.true c.index-entries-i.is c.in_ok-put_entry.ensures c.loop-i.invariant
