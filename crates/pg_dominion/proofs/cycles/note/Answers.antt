use Rattle.pg_dominion.proofs.Common.{◌≡◌, ℕ, ◌+◌, ◌<◌, ◌≤◌, ◌⊎◌, inl, inr, length, slice_index, sym, ◌∙◌, ap, arith, rules, get_or_read}
use Rattle.pg_dominion.proofs.cycles.NoWayBack.{noted_none, noted_next}
use Rattle.pg_dominion.proofs.cycles.note.Goals.{then-at-search, else-at-search}
use Rattle.pg_dominion.proofs.cycles.note.Goals as goal

pub queue-init : goal.queue-init
queue-init c = search (rules, noted_none)

pub queue-preserved : goal.queue-preserved
queue-preserved c =
    let s = c.args.search.now in
    let L = c.args.levels.now.items in
    let G = c.args.groups.now.items in
    let at = c.queue.at in
    let v = c.index-v.result.now in
    let l : at < length s.queue.items = omega (arith, c.queue-test.true, c.len-at-end.ensures) in
    let q : slice_index s.queue.items at ≡ v = sym (get_or_read s.queue.items at _ l c.index-v.ensures 0) in
    let p : slice_index s.places.items v ≡ at = ap (λ (x : ℕ). slice_index s.places.items x) (sym q) ∙ c.requires.placed at l in
    let b = c.requires.below at l in
    let old = c.queue.invariant in
    let h : ((at < s.first_repeated) × (c.if-at-search.group ≡ v + 1)) ⊎ ((s.first_repeated ≤ at) × (c.if-at-search.group ≡ c.args.start + 1))
    = elim c.if-at-search.branch [
      | then-at-search w ↦ inl (w.if-at-search.true, w.group-is)
      | else-at-search w ↦ inr (w.if-at-search.false, w.group-is)
    ] in
    noted_next L G s.places.items s.queue.items c.args.level c.args.start s.first_repeated c.queue.levels.items c.queue.groups.items at v
    c.if-at-search.group q p
    (omega (arith, b, q, old.levels_size, c.requires.levels)) (omega (arith, b, q, old.groups_size, c.requires.groups)) h old

pub overflow_add-group : goal.overflow_add-group
overflow_add-group c = search (rules, c.queue-test.true, c.len-at-end.ensures, get_or_read, c.index-v.ensures, c.requires.below, c.requires.short)

pub index_mut-requires : goal.index_mut-requires
index_mut-requires c =
    let q = c.args.search.now.queue.items in
    let l : c.queue.at < length q = omega (arith, c.queue-test.true, c.len-at-end.ensures) in
    omega (arith, get_or_read q c.queue.at _ l c.index-v.ensures 0, c.requires.below c.queue.at l, c.queue.invariant.levels_size, c.requires.levels)

pub index_mut-requires-in-queue : goal.index_mut-requires-in-queue
index_mut-requires-in-queue c =
    let q = c.args.search.now.queue.items in
    let l : c.queue.at < length q = omega (arith, c.queue-test.true, c.len-at-end.ensures) in
    omega (arith, get_or_read q c.queue.at _ l c.index-v.ensures 0, c.requires.below c.queue.at l, c.queue.invariant.groups_size, c.requires.groups)
