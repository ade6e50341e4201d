use Rattle.pg_finders.proofs.Common.{◌≡◌, ◌≤◌, ℕ, List, ap, ◌∙◌, arith, length, slice_index, settled_of}
use Rattle.pg_finders.proofs.recursion.OpenedVertices.{opened_none, opened_then, opened_place, opened_other, none_rests}
use Rattle.pg_finders.proofs.recursion.partition.Partition.open_before_taken.Goals as goal

pub loop-place-init : goal.loop-place-init
loop-place-init c = record {
  partition = c.requires.partition;
  opened = opened_none c.args.won c.args.self.now c.args.list.now.items;
  none = λ k m l v r. absurd (omega (arith, l, m));
}

pub loop-place-preserved : goal.loop-place-preserved
loop-place-preserved c =
    let place = c.loop-place.place in
    let list = settled_of c.args.self.now.settled c.args.taken.player in
    let old = c.loop-place.invariant in
    let h = c.in_ok-open_before.ensures in
    let e : slice_index c.list.result.now place ≡ slice_index list place =
    ap (λ (xs : List ℕ). slice_index xs place) (c.list.ensures ∙ opened_other c.args.taken.player old.opened c.requires.taken) in
    record {
      partition = h.partition;
      opened = opened_then old.opened h.opened;
      none = opened_place c.args.game.now list c.args.taken.from place (slice_index c.list.result.now place) h.opened e old.none h.none;
    }

pub returns-clause-none : goal.returns-clause-none
returns-clause-none c =
    let list = settled_of c.args.self.now.settled c.args.taken.player in
    let l : length list ≤ c.loop-place.place = omega (arith, c.count-place-end.ensures, c.loop-place-test.false) in
    none_rests c.args.game.now c.args.won c.loop-place.self c.args.taken.from list c.loop-place.place l c.loop-place.invariant.none
