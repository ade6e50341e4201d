use Rattle.pg_finders.proofs.Common.{◌≡◌, ◌∙◌, ◌+◌, ◌-◌, ◌≤◌, ◌<◌, ℕ, Option, None, Some, In, ap, subst, refl, members, IfOk, IsNone, VertexSet, List, Bool, sym, AreFewer, HasStepped, false, true}
use Rattle.pg_finders.proofs.Common.{how_many, steps, arith, Graph, length, priority_count}
use Rattle.std.specs.Option.{IsSome}
use Rattle.std.proofs.lemmas.Result.{IfOk-weaker}
use Rattle.pg_finders.specs.Steps.{work, gone_from}
use Rattle.pg_finders.specs.private.recursion.Solver.{number_left}
use Rattle.pg_finders.specs.declared.recursion.Solved.{Solved}
use Rattle.pg_finders.specs.declared.recursion.Solver.{Solver}
use Rattle.pg_finders.proofs.Sets.{no_both}
use Rattle.pg_finders.proofs.Steps.{steps_grow}
use Rattle.pg_finders.proofs.recursion.zielonka_within.Goals as goal

-- a solver that solves takes a step, which it must have been given
none_taken : (left : Option ℕ) → HasStepped (Some 0) left → ⊥
none_taken None h = absurd (let e : false ≡ true = h.1 in cc e)
none_taken (Some m) h = absurd (omega (arith, h.0))

none_found : (found : Option Solved) (limit left : Option ℕ) → limit ≡ Some 0 → (IsSome found → HasStepped limit left) → IsNone found
none_found None limit left is taken = refl
none_found (Some solved) limit left is taken = absurd (none_taken left (subst (λ (l : Option ℕ). HasStepped l left) is (taken refl)))

pub returns-clause-no_steps : goal.returns-clause-no_steps
returns-clause-no_steps c =
    subst (λ (A : VertexSet). IfOk c.solve.result (λ found. c.args.limit ≡ Some 0 → (v : ℕ) → In A v → IsNone found))
    (ap members (c.in_ok-solver.ensures.active ∙ c.view-view.ensures.mask))
    (IfOk-weaker c.solve.result _ _ (λ found taken is v m. none_found found c.args.limit c.solve.new.left is (λ some. taken some v m)) c.solve.ensures.charged)

-- a solver has work left
work_some : (g : Graph) (mask : List Bool) (x : Solver) → 0 < work g mask x
work_some g mask x =
    let h = steps_grow 0 (priority_count g (members mask) - length x.frames.items) 0 (how_many mask - gone_from x) (omega arith) (omega arith) in
    omega (arith, h)

-- so one that began with at most as many steps as it was given does not give up
found_some : (found : Option Solved) (limit : Option ℕ) (after before bound k : ℕ) → 0 < after → before ≤ bound
    → (IsNone found → after + number_left limit ≤ before) → limit ≡ Some k → bound ≤ k → IsSome found
found_some (Some solved) limit after before bound k some few spends is enough = refl
found_some None limit after before bound k some few spends is enough =
    let given : number_left limit ≡ k = rw is refl in
    absurd (omega (arith, spends refl, given, some, few, enough))

pub returns-clause-enough : goal.returns-clause-enough
returns-clause-enough c =
    let new = c.solve.new.self in
    let game = c.view-view.result.game.now in
    let mask = c.view-view.result.mask.now in
    let part = c.args.inside.now in
    subst (λ (h : Graph). IfOk c.solve.result (λ found. (k : ℕ) → c.args.limit ≡ Some k → steps (priority_count h (members part.mask)) (how_many part.mask) ≤ k
    → IsSome found)) c.view-view.ensures.graph
    (subst (λ (m : List Bool). IfOk c.solve.result (λ found. (k : ℕ) → c.args.limit ≡ Some k → steps (priority_count game (members m)) (how_many m) ≤ k
    → IsSome found)) c.view-view.ensures.mask
    (IfOk-weaker c.solve.result _ _ (λ found stopped k is enough.
    found_some found c.args.limit _ _ _ k (work_some game mask new) c.in_ok-solver.ensures.work (λ n. (stopped n).spent) is enough)
    c.solve.ensures.stopped))

pub returns-clause-nothing : goal.returns-clause-nothing
returns-clause-nothing c = IfOk-weaker c.solve.result _ _ (λ found stopped none.
    (let some = c.is_empty.ensures.not_empty c.if-is_empty.false in
    absurd (no_both some.1 (subst (λ m. members m some.0 ≡ false) (sym c.mask.ensures) (none some.0))))) c.solve.ensures.stopped

-- nor does one without a limit
found_unlimited : (found : Option Solved) (limit left : Option ℕ) → AreFewer limit left → (IsNone found → left ≡ Some 0) → limit ≡ None → IsSome found
found_unlimited (Some solved) limit left fewer none_left is = refl
found_unlimited None limit left fewer none_left is = absurd (let f : left ≡ None = rw is at fewer in cc (sym f ∙ none_left refl))

pub returns-clause-unlimited : goal.returns-clause-unlimited
returns-clause-unlimited c = IfOk-weaker c.solve.result _ _
    (λ found stopped is. found_unlimited found c.args.limit c.solve.new.left c.solve.ensures.fewer (λ n. (stopped n).none_left) is) c.solve.ensures.stopped
