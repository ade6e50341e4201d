use Rattle.pg_game.proofs.Common.{ℕ, List, length, ap, sym, ◌∙◌, subst, arith, Graph, IsGame, IsWithinLimits, successors_of}
use Rattle.pg_game.proofs.Different.{rising_most}
use Rattle.pg_game.proofs.game.Parts.{length_is, successors_are}
use Rattle.pg_game.proofs.game.ForwardGame.successors.Goals as goal

pub row-requires : goal.row-requires
row-requires c = omega (arith, length_is c.self.invariant.parts c.self.view_is, c.self.invariant.parts.successors)

pub returns-clause-all : goal.returns-clause-all
returns-clause-all c = c.row.ensures.row ∙ sym (successors_are c.self.invariant.parts c.self.view_is c.args.v)

pub returns-clause-below : goal.returns-clause-below
returns-clause-below c =
    let e = c.row.ensures.row ∙ sym (successors_are c.self.invariant.parts c.self.view_is c.args.v) in
    let i : IsGame c.args.self.now = subst (λ (g : Graph). IsGame g) c.self.view_is c.self.invariant.game in
    rw e (i.successors c.args.v c.requires).below

pub returns-clause-short : goal.returns-clause-short
returns-clause-short c =
    let g = c.args.self.now in
    let ws = successors_of g c.args.v in
    let i : IsGame g = subst (λ (h : Graph). IsGame h) c.self.view_is c.self.invariant.game in
    let limits : IsWithinLimits g = subst (λ (h : Graph). IsWithinLimits h) c.self.view_is c.self.invariant.limits in
    let s = i.successors c.args.v c.requires in
    let most = rising_most ws (length g) s.rising s.below in
    let e = ap (λ (xs : List ℕ). length xs) (c.row.ensures.row ∙ sym (successors_are c.self.invariant.parts c.self.view_is c.args.v)) in
    omega (arith, most, e, limits.vertices)
