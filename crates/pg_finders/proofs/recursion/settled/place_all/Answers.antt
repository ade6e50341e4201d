use Rattle.pg_finders.proofs.Common.{◌<◌, ◌∙◌, length, arith, length-set, slice_index_or, subst, sym}
use Rattle.pg_finders.proofs.recursion.PlacedLists.{written_before, written_elsewhere}
use Rattle.pg_finders.proofs.recursion.settled.place_all.Goals as goal

pub loop-v-preserved : goal.loop-v-preserved
loop-v-preserved c =
    let old = c.loop-v.invariant in
    let vs = c.args.vertices.now in
    let i = c.loop-v.v-index in
    let P = c.loop-v.places.items in
    let below : slice_index_or vs i 0 < length P = subst (λ n. slice_index_or vs i 0 < n) (sym old.len) (c.requires.below i 0 c.loop-v-test.true) in
    record {
      place = omega (arith, old.place);
      len = length-set P (slice_index_or vs i 0) c.loop-v.place ∙ old.len;
      here = written_before P vs i c.loop-v.place c.args.from c.requires.once c.loop-v-test.true below old.place old.here;
      elsewhere = written_elsewhere c.args.places.now.items P vs i c.loop-v.place c.loop-v-test.true old.elsewhere;
    }
