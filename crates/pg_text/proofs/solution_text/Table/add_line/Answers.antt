use Rattle.pg_text.proofs.Common.{ℕ, refl, sym, subst, Option, Some, None, line_of}
use Rattle.pg_text.proofs.solution_text.VertexTable.{IsChoice, row_is, at_home}
use Rattle.pg_text.proofs.solution_text.Table.add_line.Goals.{in-Some+in_ok-look_up-in-Some, in-None}
use Rattle.pg_text.proofs.solution_text.Table.add_line.Goals as goal

pub returns : goal.returns
returns c = λ lines h.
    let g = c.args.game.now in
    let l = c.args.line.now in
    let choice : IsChoice g l.choice c.match-line.choice = elim c.match-line.branch [
      | in-Some+in_ok-look_up-in-Some w ↦ subst (λ (o : Option ℕ). IsChoice g o c.match-line.choice) (sym w.in-Some.is)
          (subst (λ (o : Option ℕ). IsChoice g (Some w.in-Some.id) o) (sym w.choice-is) w.in_ok-look_up-in-Some.ensures)
      | in-None w ↦ subst (λ (o : Option ℕ). IsChoice g o c.match-line.choice) (sym w.in-None.is)
          (subst (λ (o : Option ℕ). IsChoice g None o) (sym w.choice-is) tt)
    ] in
    let n = c.in_ok-v.ensures in
    let row = row_is g l.id l.winner l.choice c.match-line.choice h.game choice in
    c.add_row.ensures g lines (line_of l) h n refl row (at_home g l.id c.in_ok-v.v (line_of l).winner l.choice c.match-line.choice n choice)
