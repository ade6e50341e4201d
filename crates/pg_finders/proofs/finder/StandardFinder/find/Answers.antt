use Rattle.pg_finders.proofs.Common.{ℕ, List, length, ap, subst, ◌∙◌, min, IfOk, append-nil, Graph, members, Claim, IsOfSmall}
use Rattle.std.proofs.Common.{Option}
use Rattle.std.specs.Prelude.{◌++◌}
use Rattle.std.specs.Option.{option_to_list}
use Rattle.std.proofs.lemmas.Result.{IfOk-weaker}
use Rattle.pg_finders.specs.Jobs.{seeds_of, with_rows}
use Rattle.pg_finders.proofs.finder.StandardFinder.find.Goals as goal

pub returns-in_ok-find_solitaire-in-Solitaire-clause-solitaire : goal.returns-in_ok-find_solitaire-in-Solitaire-clause-solitaire
returns-in_ok-find_solitaire-in-Solitaire-clause-solitaire c =
    let s = c.in_ok-find_solitaire-in-Solitaire in
    rw c.in-Solitaire.is (IfOk-weaker c.all_of-in-Solitaire.result _ _
    (λ f h. record { found = s.field-0; answer = s.ensures; all = h ∙ append-nil _ }) c.all_of-in-Solitaire.ensures.claims)

pub returns-in_ok-seeds-in-Small-clause-small : goal.returns-in_ok-seeds-in-Small-clause-small
returns-in_ok-seeds-in-Small-clause-small c =
    let i = c.args.copied.now.inside in
    let s = c.in-Small in
    let n = c.len.ensures.number ∙ ap (λ (g : Graph). length g) c.game.ensures.graph in
    let e = c.as_slice.ensures.value ∙ (c.in_ok-seeds-in-Small.ensures.seeds ∙ ap (λ (n : ℕ). seeds_of n s.first s.count) n) in
    rw s.is (subst (λ (xs : List ℕ). IfOk c.small_of.result (λ f. IsOfSmall i.graph (members i.mask) s.player xs (min s.bound 8) s.budget
    f.claims.items f.gave_up)) e c.small_of.ensures)

pub returns-in_ok-solved-in-Recursion-clause-recursion : goal.returns-in_ok-solved-in-Recursion-clause-recursion
returns-in_ok-solved-in-Recursion-clause-recursion c =
    let s = c.in_ok-solved-in-Recursion in
    let e = ap (λ (o : Option Claim). option_to_list o ++ option_to_list c.if_some-in-Recursion.result) c.if_some.ensures
    ∙ ap (λ (o : Option Claim). option_to_list (with_rows s.solved.even) ++ option_to_list o) c.if_some-in-Recursion.ensures in
    rw c.in-Recursion.is (IfOk-weaker c.all_of-in-Recursion.result _ _
    (λ f h. record { even = s.solved.even; odd = s.solved.odd; shared = s.ensures; order = h ∙ e }) c.all_of-in-Recursion.ensures.claims)
