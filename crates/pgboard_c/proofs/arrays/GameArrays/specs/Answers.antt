use Rattle.pgboard_c.proofs.Common.{rules, ◌≡◌, ◌∙◌, ◌<◌, ◌≤◌, List, [], ◌∷◌, length, sym, subst, arith, All, Spec, AreNumbers, array_spec, array_specs, game_lists}
use Rattle.pg_game.proofs.Sound.{many_fault}
use Rattle.std.specs.Prelude.{◌++◌}
use Rattle.pgboard_c.proofs.arrays.GameOfArrays.{length_specs, numbers_below, specs_below, specs_more}
use Rattle.pgboard_c.proofs.arrays.GameArrays.specs.Goals as goal

pub loop-v-preserved : goal.loop-v-preserved
loop-v-preserved c =
    let a = game_lists c.args.self.now in let v = c.loop-v.v in
    let pushed : c.push.new.self ≡ specs_below a v ++ array_spec a v ∷ [] = search rules in
    pushed ∙ sym (specs_more a v)

pub returns-then-n-gt-MAX_IDS-clause-fault : goal.returns-then-n-gt-MAX_IDS-clause-fault
returns-then-n-gt-MAX_IDS-clause-fault c =
    let a = game_lists c.args.self.now in
    let n = length_specs a (length a.owners) in
    let l : 2147483648 < length a.owners = search rules in
    (c.in_ok-check.ensures.formed, many_fault (array_specs a) (omega (arith, n, l)))

pub returns-clause-numbers : goal.returns-clause-numbers
returns-clause-numbers c =
    let e : c.loop-v.v ≡ length c.args.self.now.owners.now = search rules in
    let few : length c.args.self.now.owners.now ≤ 2147483648 = search rules in
    let numbers = numbers_below (game_lists c.args.self.now) c.in_ok-check.ensures.formed.priorities c.loop-v.v (omega (arith, e)) (omega (arith, e, few)) in
    subst (λ (specs : List Spec). All AreNumbers specs) (sym c.loop-v.invariant) numbers
