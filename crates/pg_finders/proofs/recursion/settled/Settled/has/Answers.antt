use Rattle.pg_finders.proofs.Common.{◌≡◌, ◌∙◌, ◌==◌, ℕ, List, length, refl, sym, ap, arith, slice_index_or, settled_of}
use Rattle.pg_dominion.proofs.Common.{get_or_read}
use Rattle.pg_finders.proofs.recursion.PlacedLists.{is_listed_here, not_listed_from, listed_from_is}
use Rattle.pg_finders.proofs.recursion.settled.Settled.has.Goals as goal

pub returns-then-tail-list-clause-place : goal.returns-then-tail-list-clause-place
returns-then-tail-list-clause-place c =
    let same : length c.list-list.result.now ≡ length (settled_of c.args.self.now c.args.tail.player) = ap length c.list-list.ensures in
    sym (not_listed_from c.args.self.now.places.items (settled_of c.args.self.now c.args.tail.player) c.args.tail.from c.args.v _ refl (λ l m. omega (arith, l, m, same, c.if-tail-list.true)))

pub returns-then-tail-list-clause-listed : goal.returns-then-tail-list-clause-listed
returns-then-tail-list-clause-listed c = λ n h. returns-then-tail-list-clause-place c
    ∙ listed_from_is c.args.self.now.places.items (settled_of c.args.self.now c.args.tail.player) (h.table c.args.tail.player) c.args.tail.from c.args.v

pub returns-then-place-tail-clause-place : goal.returns-then-place-tail-clause-place
returns-then-place-tail-clause-place c =
    let P = c.args.self.now.places.items in
    let e : c.index.result.now ≡ slice_index_or P c.args.v 0 = get_or_read P c.args.v _ c.requires c.index.ensures 0 in
    sym (not_listed_from P (settled_of c.args.self.now c.args.tail.player) c.args.tail.from c.args.v c.index.result.now e (λ l m. omega (arith, l, c.if-place-tail.true)))

pub returns-then-place-tail-clause-listed : goal.returns-then-place-tail-clause-listed
returns-then-place-tail-clause-listed c = λ n h. returns-then-place-tail-clause-place c
    ∙ listed_from_is c.args.self.now.places.items (settled_of c.args.self.now c.args.tail.player) (h.table c.args.tail.player) c.args.tail.from c.args.v

pub returns-then-place-list-clause-place : goal.returns-then-place-list-clause-place
returns-then-place-list-clause-place c =
    let P = c.args.self.now.places.items in
    let e : c.index.result.now ≡ slice_index_or P c.args.v 0 = get_or_read P c.args.v _ c.requires c.index.ensures 0 in
    let same : length c.list-list.result.now ≡ length (settled_of c.args.self.now c.args.tail.player) = ap length c.list-list.ensures in
    sym (not_listed_from P (settled_of c.args.self.now c.args.tail.player) c.args.tail.from c.args.v c.index.result.now e (λ l m. omega (arith, m, same, c.if-place-list.true)))

pub returns-then-place-list-clause-listed : goal.returns-then-place-list-clause-listed
returns-then-place-list-clause-listed c = λ n h. returns-then-place-list-clause-place c
    ∙ listed_from_is c.args.self.now.places.items (settled_of c.args.self.now c.args.tail.player) (h.table c.args.tail.player) c.args.tail.from c.args.v

pub returns-clause-place : goal.returns-clause-place
returns-clause-place c =
    let P = c.args.self.now.places.items in
    let e : c.index.result.now ≡ slice_index_or P c.args.v 0 = get_or_read P c.args.v _ c.requires c.index.ensures 0 in
    let same : length c.list-list.result.now ≡ length (settled_of c.args.self.now c.args.tail.player) = ap length c.list-list.ensures in
    ap (λ (ys : List ℕ). slice_index_or ys c.index.result.now 0 == c.args.v) c.list-list.ensures
    ∙ is_listed_here P (settled_of c.args.self.now c.args.tail.player) c.args.tail.from c.args.v
    c.index.result.now e (omega (arith, c.if-place-tail.false)) (omega (arith, same, c.if-place-list.false))

pub returns-clause-listed : goal.returns-clause-listed
returns-clause-listed c = λ n h. returns-clause-place c
    ∙ listed_from_is c.args.self.now.places.items (settled_of c.args.self.now c.args.tail.player) (h.table c.args.tail.player) c.args.tail.from c.args.v
