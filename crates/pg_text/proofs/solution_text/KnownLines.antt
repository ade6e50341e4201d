-- What the table of a game's vertices says that is known, and why it is not asked further.
use Rattle.pg_text.proofs.Common.{◌≡◌, ℕ, ◌<◌, true, false, length, get_or, refl, sym, ◌∙◌, ap, arith, List, Bool, rules, Option, Some, None, if◌then◌else◌}
use Rattle.pg_text.proofs.Common.{MatchResult, Result, slice_get-get_or, Even, Graph, members, WrittenSolutionLine, SolutionRows}
use Rattle.pg_text.proofs.Common.{has_line, HoldsLines, AreKnownLinesOf}
use Rattle.std.specs.Prelude.{IsErrAnd}
use Rattle.pg_text.specs.Known.{KnownRows}
use Rattle.pg_text.proofs.solution_text.VertexTable.{has_line_at}

module _ {g : Graph} {lines : List WrittenSolutionLine} {rows : SolutionRows} {said : List Bool} {twice : Option ℕ}
    (h : HoldsLines g lines rows said twice) where
  -- the table's row of each vertex that has a line, and nothing of the others
  pub say_known : twice ≡ None → (known : KnownRows) → length known ≡ length g
      → ((u : ℕ) → u < length known → get_or known u None ≡ (if members said u then Some (get_or rows u (Even, None)) else None))
      → AreKnownLinesOf g lines known
  say_known none known size each = record {
    no_stranger = h.no_stranger;
    once = sym h.first ∙ none;
    size = size;
    said = λ v l x m e.
        let t : members said v ≡ true = h.marked v l ∙ (ap (has_line lines) (sym e) ∙ has_line_at lines x m) in
        let d : v < length known = omega arith in
        let k : get_or known v None ≡ Some (get_or rows v (Even, None)) = each v d ∙ rw t refl in
        slice_get-get_or known v None d ∙ ap (λ r. Some r) (k ∙ ap (λ r. Some r) (h.says none v l x m e));
    unsaid = λ v l e.
        let t : members said v ≡ false = h.marked v l ∙ e in
        let d : v < length known = omega arith in
        slice_get-get_or known v None d ∙ ap (λ r. Some r) (each v d ∙ rw t refl);
  }

-- an error that is handed on
pub passed_on : {A E : Type 0} (r : Result A E) (e : E) (P : A → Type 0) (Q : E → Type 0) → IsErrAnd r (λ x. x ≡ e) → Q e → MatchResult r P Q
passed_on x0 e x2 x3 is q = search (rules)
