use Rattle.std.specs.Prelude.{IsTrue, ◌↔◌}
use Rattle.pg_finders.proofs.Common.{◌≡◌, subst, rules, same_is, is_same, HasEdge, owner_of, priority_of, of_parity, In, members, loops, both_ways}
use Rattle.pg_finders.proofs.loops.SingleDominions.{loop_from_test, test_from_loop}
use Rattle.pg_finders.proofs.loops.is_loop.Goals as goal

pub returns-then-eq : goal.returns-then-eq
returns-then-eq c =
    let g = c.args.inside.now.graph in
    let U = members c.args.inside.now.mask in
    let p = c.args.player in
    let v = c.args.v in
    let i : In U v = cc (c.has.ensures, c.mask-mask.ensures, c.if-not-has.false) in
    let owner : owner_of g v ≡ p = search (rules, same_is) in
    let parity : of_parity (priority_of g v) ≡ p = search (rules, same_is) in
    let edge : IsTrue c.has_edge.result ↔ HasEdge g v v = rw c.game-game.ensures.graph at c.has_edge.ensures in
    both_ways c.has_edge.result (loops g U p v)
    (λ y. test_from_loop g U p v record { inside = i; parity = parity; itself = edge.0 y; only = λ n. absurd (n owner) })
    (λ y. edge.1 (loop_from_test g U p v y).itself)

pub returns-else-eq : goal.returns-else-eq
returns-else-eq c =
    let g = c.args.inside.now.graph in
    let U = members c.args.inside.now.mask in
    let p = c.args.player in
    let v = c.args.v in
    let i : In U v = cc (c.has.ensures, c.mask-mask.ensures, c.if-not-has.false) in
    let parity : of_parity (priority_of g v) ≡ p = search (rules, same_is) in
    let s = c.game-game.ensures.part.subgame.successor v i in
    both_ways c.has_no_other_successor.result (loops g U p v)
    (λ y.
    (let only = c.has_no_other_successor.ensures.0 y in
    let itself : HasEdge g v v = subst (λ x. HasEdge g v x) (only s.0 s.1 s.2) s.1 in
    test_from_loop g U p v record { inside = i; parity = parity; itself = itself; only = λ _. only }))
    (λ y. c.has_no_other_successor.ensures.1 ((loop_from_test g U p v y).only (λ o. absurd (search (rules, is_same, o)))))
