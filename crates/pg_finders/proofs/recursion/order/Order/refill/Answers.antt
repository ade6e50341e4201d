use Rattle.pg_finders.proofs.Common.{◌≡◌, ◌++◌, ◌∙◌, ℕ, List, ap, vec_len, arith, members, rules, subst, priority_of}
use Rattle.std.specs.List.{filter}
use Rattle.std.specs.List.Sorted.{IsPermutation}
use Rattle.std.proofs.lemmas.List.Sorted.{IsNonDecreasingBy-from_sort_by_key}
use Rattle.pg_finders.proofs.recursion.FilteredLists.{order_of_active}
use Rattle.pg_finders.proofs.recursion.order.Order.refill.Goals as goal

pub returns : goal.returns
returns c =
    let A = members c.args.active.now in
    let xs = c.args.list.now in
    let e : c.list_active.new.list.items ≡ filter (λ v. A v) xs =
    c.in_ok-list_active.ensures ∙ ap (λ (ys : List ℕ). ys ++ filter (λ v. A v) xs) c.clear.ensures.items in
    let a : c.len-self.result ≡ vec_len c.sort_unstable_by_key.new.self = c.len-self.ensures in
    order_of_active c.args.game.now A xs _ c.requires.below c.requires.once c.requires.listed
    (subst (λ (ys : List ℕ). IsPermutation ys c.sort_unstable_by_key.new.self.items) e c.sort_unstable_by_key.ensures.permutation)
    (IsNonDecreasingBy-from_sort_by_key (priority_of c.args.game.now) _ c.sort_unstable_by_key.ensures.sorted (λ a r q k. search rules))
    (omega (arith, a, c.sort_unstable_by_key.new.self.ok))
