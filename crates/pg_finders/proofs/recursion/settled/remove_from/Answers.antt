use Rattle.pg_finders.proofs.Common.{◌≡◌, ◌-◌, ◌<◌, ℕ, List, arith, length, slice_index_or, slice_set, subst, sym}
use Rattle.pg_dominion.proofs.Common.{get_or_read}
use Rattle.std.specs.List.{swap_remove}
use Rattle.pg_finders.specs.private.recursion.Settled.{HasPlaces, IsWithout}
use Rattle.pg_finders.proofs.recursion.PlacedLists.{place_from, removed_without, removed_other}
use Rattle.pg_finders.proofs.recursion.RepeatedAttraction.{all_listed}
use Rattle.pg_finders.proofs.recursion.settled.remove_from.Goals as goal

pub index-place-requires : goal.index-place-requires
index-place-requires c =
    let b = all_listed (λ u. u < length c.args.places.now.items) c.args.list.now.items c.requires.below c.args.v c.requires.listed in
    omega (arith, b, c.args.places.now.ok)

pub swap_remove-requires : goal.swap_remove-requires
swap_remove-requires c =
    let P = c.args.places.now.items in
    let xs = c.args.list.now.items in
    let b = all_listed (λ u. u < length P) xs c.requires.below c.args.v c.requires.listed in
    let e : c.index-place.result.now ≡ slice_index_or P c.args.v 0 = get_or_read P c.args.v _ b c.index-place.ensures 0 in
    let a = place_from P xs c.requires.places 0 c.args.v c.requires.listed in
    omega (arith, a.1, e, c.args.list.now.ok)

pub returns-clause-without : goal.returns-clause-without
returns-clause-without c =
    let P = c.args.places.now.items in
    let xs = c.args.list.now.items in
    let b = all_listed (λ u. u < length P) xs c.requires.below c.args.v c.requires.listed in
    let e : c.index-place.result.now ≡ slice_index_or P c.args.v 0 = get_or_read P c.args.v _ b c.index-place.ensures 0 in
    subst (λ (ys : List ℕ). IsWithout c.args.v xs ys) (sym c.swap_remove.ensures.items)
    (subst (λ (k : ℕ). IsWithout c.args.v xs (swap_remove xs k c.swap_remove.result)) (sym e)
    (removed_without P xs c.requires.places c.args.v c.swap_remove.result c.requires.listed))

pub returns-clause-others : goal.returns-clause-others
returns-clause-others c = λ ys h apart.
    let P = c.args.places.now.items in
    let xs = c.args.list.now.items in
    let b = all_listed (λ u. u < length P) xs c.requires.below c.args.v c.requires.listed in
    let e : c.index-place.result.now ≡ slice_index_or P c.args.v 0 = get_or_read P c.args.v _ b c.index-place.ensures 0 in
    let a = place_from P xs c.requires.places 0 c.args.v c.requires.listed in
    let n : c.len.result - 1 ≡ length xs - 1 = omega (arith, c.len.ensures, c.args.list.now.ok) in
    let m : c.index-last.result.now ≡ slice_index_or xs (length xs - 1) 0 =
    subst (λ (k : ℕ). c.index-last.result.now ≡ slice_index_or xs k 0) n (get_or_read xs (c.len.result - 1) _ (omega (arith, n, a.1)) c.index-last.ensures 0) in
    subst (λ (u : ℕ). HasPlaces (slice_set P u c.index-place.result.now) ys) (sym m)
    (subst (λ (k : ℕ). HasPlaces (slice_set P (slice_index_or xs (length xs - 1) 0) k) ys) (sym e)
    (removed_other P xs c.requires.places 0 c.args.v 0 c.requires.listed ys h apart))
