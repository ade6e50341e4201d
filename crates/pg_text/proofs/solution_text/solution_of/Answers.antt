use Rattle.pg_text.proofs.Common.{rules, ◌≡◌, ℕ, ◌<◌, Bool, true, false, not, List, [], ◌∷◌, length, map, get_or, sym, subst, arith, ◌==◌}
use Rattle.pg_text.proofs.Common.{Option, Some, None, IfSome, IfOk, MatchResult, Result, find, slice_get, Contains, eqb-true, get_or-map, length-map}
use Rattle.pg_text.proofs.Common.{get_or_from_slice_get, Player, Even, Graph, IsGame, id_of, no_vertex, SolutionTextFault, Solution, WrittenSolutionLine}
use Rattle.pg_text.proofs.Common.{SolutionRows, AreSolutionRows, AreLinesOf, has_line, row_of_line}
use Rattle.pg_text.proofs.solution_text.KnownLines.{passed_on}
use Rattle.std.proofs.lemmas.Bool.{not-false}
use Rattle.std.proofs.lemmas.List.Elements.{Contains-get_or}
use Rattle.pg_text.proofs.solution_text.Identifiers.{some_at, number_at, line_home, choice_below}
use Rattle.pg_game.proofs.AllElements.{all_from_places}
use Rattle.pg_text.proofs.solution_text.solution_of.Goals as goal

no_line : WrittenSolutionLine
no_line = record { id = 0; winner = 0; choice = None }

-- what no number passes
none_passes : (p : ℕ → Bool) (xs : List ℕ) (k : ℕ) → find p xs ≡ None → k < length xs → p (get_or xs k 0) ≡ false
none_passes p [] k e l = absurd (omega arith)
none_passes p (x ∷ xs) k e l = search (rules, none_passes p xs)

module _ (g : Graph) (lines : List WrittenSolutionLine) (rows : SolutionRows) (i : IsGame g) (are : AreLinesOf g lines rows) where
  has_line_of : (v : ℕ) → v < length g → has_line lines (id_of g v) ≡ true
  has_line_of v l =
      let n : length (map (λ x. x.id) g) ≡ length g = length-map g (λ x. x.id) in
      let e : get_or (map (λ x. x.id) g) v 0 ≡ id_of g v = get_or-map (λ x. x.id) g v no_vertex 0 l in
      let f : not (has_line lines (get_or (map (λ x. x.id) g) v 0)) ≡ false =
      none_passes (λ id. not (has_line lines id)) (map (λ x. x.id) g) v are.complete (omega arith) in
      not-false (has_line lines (id_of g v)) (subst (λ id. not (has_line lines id) ≡ false) e f)

  are_rows : AreSolutionRows g rows
  are_rows = record {
    size = are.says.size;
    choices = all_from_places (λ r. IfSome r.1 (λ w. w < length g)) (Even, None) rows (λ v l.
        let h : v < length g = omega arith in
        let (k, lk, e) = some_at (λ x. x.id == id_of g v) lines no_line (has_line_of v h) in
        let x : WrittenSolutionLine = get_or lines k no_line in
        let q : x.id ≡ id_of g v = eqb-true x.id (id_of g v) e in
        let m : Contains lines x = Contains-get_or lines k no_line lk in
        let at : slice_get rows v ≡ Some (row_of_line g x) =
        subst (λ u. slice_get rows u ≡ Some (row_of_line g x)) (number_at g x.id v i (record { vertex = h; id_is = sym q })) (are.says.each x m) in
        subst (λ (r : Player × Option ℕ). IfSome r.1 (λ w. w < length g)) (sym (get_or_from_slice_get rows v (row_of_line g x) (Even, None) at))
        (choice_below g x i (line_home g lines x are.no_stranger m)));
  }

-- where the rows of lines are answered
fit_answer : (g : Graph) (lines : List WrittenSolutionLine) (r : Result Solution SolutionTextFault) (Q : SolutionTextFault → Type 0) → IsGame g
    → MatchResult r (λ s. AreLinesOf g lines s.rows) Q → IfOk r (λ s. AreSolutionRows g s.rows)
fit_answer g lines x2 x3 i a = search (rules, are_rows)

pub returns-in_err-table_of-clause-rows : goal.returns-in_err-table_of-clause-rows
returns-in_err-table_of-clause-rows c = search (rules, passed_on, c.in_err-table_of.ensures)

pub returns-clause-fit : goal.returns-clause-fit
returns-clause-fit c = let h = c.in_ok-table_of.ensures in fit_answer c.args.game.now _ c.into_solution.result _ h.game (c.into_solution.ensures _ h)
