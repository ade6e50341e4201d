use Rattle.pgboard_c.proofs.Common.{◌≡◌, length, ap, arith, rules, subst, Graph, IsExactSolution, no_choice}
use Rattle.std.specs.Prelude.{ℕ, Option}
use Rattle.pg_text.specs.Known.{KnownRows}
use Rattle.pgboard_c.specs.declared.fault.Fault.{Fault}
use Rattle.std.proofs.lemmas.Result.{err_from_is_err_and}
use Rattle.pgboard_c.specs.Arrays.{GameLists, ResultLists, IsGameOfArrays, solution_lists, result_lists}
use Rattle.pgboard_c.specs.Answers.{HaveSize}
use Rattle.pgboard_c.specs.KnownArrays.{AreKnown, FitsAsKnown, IsUnsolved, IsNotSolvedFrom, IsSolveFromFault}
use Rattle.pgboard_c.proofs.arrays.ChoiceNumbers.{choices_below}
use Rattle.pgboard_c.proofs.on_arrays.solve_known.Goals as goal

-- something may be known of each vertex, and of no more
pub invariant_of-of_game : goal.invariant_of-of_game
invariant_of-of_game c =
    let rows : length c.in_ok-known.known.rows ≡ length c.args.given.now.winners.now = c.in_ok-known.ensures.size in
    let winners : length c.args.given.now.winners.now ≡ length c.in_ok-forward.forward = c.in_ok-check_lengths.ensures.fit.1 in
    let same : length c.in_ok-game.game ≡ length c.in_ok-forward.forward = ap length c.in_ok-game.ensures in omega (arith, rows, winners, same)

pub write_results-requires-clause-below : goal.write_results-requires-clause-below
write_results-requires-clause-below c =
    let exact = subst (λ (g : Graph). IsExactSolution g c.in_ok-solution.solution.rows) c.in_ok-game.ensures c.in_ok-solution.ensures.exact in
    choices_below _ _ no_choice c.in_ok-forward.ensures.game.1 exact (search rules)

-- the reason is one of solving from what is known
not_solved : (limit : Option ℕ) (a : GameLists) (k r : ResultLists) (g same : Graph) (known : KnownRows) → same ≡ g → IsGameOfArrays a g
    → FitsAsKnown g k → AreKnown k.winners k.choices known → HaveSize g r → (e : Fault) → IsUnsolved limit same known e → IsSolveFromFault limit a k r e
not_solved limit a k r g same known is game fits are sized e why =
    let h : IsUnsolved limit g known e = subst (λ (x : Graph). IsUnsolved limit x known e) is why in
    let all : IsNotSolvedFrom limit a k r e = (g, known, game, fits, are, sized, h) in grind (arith, h, all)

pub returns-in_err-solution : goal.returns-in_err-solution
returns-in_err-solution c =
    let p = err_from_is_err_and c.from_residual-in_err-solution.result c.from_residual-in_err-solution.ensures.1 in
    let k = solution_lists c.args.given.now in
    let r = result_lists c.args.results.now in
    let g = c.in_ok-forward.forward in
    let fits : FitsAsKnown g k = search rules in
    let sized : HaveSize g r = search rules in
    rw (p.1, p.2) (
      not_solved c.args.limit _ k r g _ c.in_ok-known.known.rows c.in_ok-game.ensures c.in_ok-forward.ensures.game fits
          c.in_ok-known.ensures sized _ c.in_err-solution.ensures.fault,
      search rules,
    )
