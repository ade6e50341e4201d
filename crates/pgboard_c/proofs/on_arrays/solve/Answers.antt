use Rattle.pgboard_c.proofs.Common.{◌≡◌, ◌∙◌, ℕ, [], length, refl, subst, arith, rules, Graph, IsExactSolution, no_choice}
use Rattle.std.specs.Prelude.{Option, IsNone}
use Rattle.pg_game.specs.VertexSet.{all_vertices}
use Rattle.pg_finders.specs.Steps.{priority_count}
use Rattle.pg_board.specs.BoardRecord.{BoardRecord}
use Rattle.pg_board.specs.Journal.{number_settled}
use Rattle.pg_board.specs.Finish.{MayGiveUp, number_unsettled, priorities_unsettled}
use Rattle.pg_board.proofs.UnsettledNumber.{gives_up_before, open_priorities}
use Rattle.pgboard_c.proofs.arrays.ChoiceNumbers.{choices_below}
use Rattle.pgboard_c.proofs.on_arrays.solve.Goals as goal

pub write_results-requires-clause-below : goal.write_results-requires-clause-below
write_results-requires-clause-below c =
    let same = c.in_ok-open.ensures.graph ∙ c.in_ok-game.ensures in
    let found = rw c.in-Some.is at c.in_ok-solution.ensures.exact in
    let exact = subst (λ (g : Graph). IsExactSolution g c.in-Some.solution.rows) same found in
    choices_below _ _ no_choice c.in_ok-forward.ensures.game.1 exact c.in_ok-check_lengths.ensures.few

-- on a new board all vertices are unsettled
all_unsettled : (b : BoardRecord) (g : Graph) (limit : Option ℕ) → b.graph ≡ g → b.journal ≡ [] → MayGiveUp limit (priorities_unsettled b) (number_unsettled b)
    → MayGiveUp limit (priority_count g (all_vertices g)) (length g)
all_unsettled b g limit graph journal h =
    let none : number_settled b.journal ≡ 0 = rw journal refl in
    let same : length b.graph ≡ length g = rw graph refl in
    let all : number_unsettled b ≡ length g = omega (arith, none, same) in
    gives_up_before limit _ _ _ _ (open_priorities b g graph) (omega (arith, all)) h

pub returns-in_default : goal.returns-in_default
returns-in_default c =
    let same = c.in_ok-open.ensures.graph ∙ c.in_ok-game.ensures in
    let none : IsNone c.in_ok-solution.field-0 = search rules in
    let shut = all_unsettled _ _ c.args.limit same c.in_ok-open.ensures.journal (c.in_ok-solution.ensures.limited none) in
    ((c.in_ok-forward.forward, c.in_ok-forward.ensures.game, c.in_ok-check_lengths.ensures.fit, shut), search rules)
