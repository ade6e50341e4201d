use Rattle.pg_text.proofs.Common.{◌≡◌, ℕ, true, false, ◌∷◌, ◌++◌, [], set, refl, sym, ◌∙◌, ap, subst, Option, Some, None, option_or, row_of_line, HoldsLines}
use Rattle.std.specs.Option.{is_some}
use Rattle.pg_text.proofs.solution_text.VertexTable.{holds_again, holds_more}
use Rattle.pg_text.proofs.solution_text.Table.add_row.Goals as goal

nothing : (o : Option ℕ) (x : ℕ) → is_some o ≡ false → option_or o (Some x) ≡ Some x
nothing None x e = refl
nothing (Some y) x e = absurd (cc e)

something : (o : Option ℕ) (x : ℕ) → is_some o ≡ true → option_or o (Some x) ≡ o
something None x e = absurd (cc e)
something (Some y) x e = refl

pub returns-then-is_none : goal.returns-then-is_none
returns-then-is_none c = λ g lines l h n id row home.
    let t = c.args.self.now in
    let e : option_or t.twice (Some l.id) ≡ Some c.args.id = nothing t.twice l.id c.if-is_none.ensures ∙ ap (λ i. Some i) id in
    subst (λ (o : Option ℕ). HoldsLines g (lines ++ l ∷ []) t.rows.items t.said o) e
    (holds_again h l c.args.v n home (sym c.if-has.ensures))

pub returns-else-is_none : goal.returns-else-is_none
returns-else-is_none c = λ g lines l h n id row home.
    let t = c.args.self.now in
    let e : option_or t.twice (Some l.id) ≡ t.twice = something t.twice l.id c.if-is_none.ensures in
    subst (λ (o : Option ℕ). HoldsLines g (lines ++ l ∷ []) t.rows.items t.said o) e
    (holds_again h l c.args.v n home (sym c.if-has.ensures))

pub returns-else-has : goal.returns-else-has
returns-else-has c = λ g lines l h n id row home.
    let t = c.args.self.now in
    let k = holds_more h l c.args.v n home (sym c.if-has.ensures) in
    subst (λ r. HoldsLines g (lines ++ l ∷ []) (set t.rows.items c.args.v r) c.insert.new.self t.twice) (sym row)
    (subst (λ m. HoldsLines g (lines ++ l ∷ []) (set t.rows.items c.args.v (row_of_line g l)) m t.twice) (sym c.insert.ensures) k)
