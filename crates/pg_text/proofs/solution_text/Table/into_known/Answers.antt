use Rattle.std.proofs.lemmas.Grind.{common_steps}
use Rattle.pg_text.proofs.Common.{◌≡◌, rules, sym, subst, arith, None, AreKnownLinesOf}
use Rattle.pg_text.proofs.solution_text.KnownLines.{say_known}
use Rattle.pg_text.proofs.solution_text.Table.into_known.Goals as goal

pub returns : goal.returns
returns c = λ lines h.
    let none : c.args.self.twice ≡ None = search rules in
    let k = say_known h none c.vertices.rows.items (omega arith) (λ u l. c.vertices.invariant.2 u (omega arith)) in
    subst (λ rows. AreKnownLinesOf c.args.game.now lines rows) (sym c.new.ensures) k

pub vertices-preserved : goal.vertices-preserved
vertices-preserved c = grind (arith, common_steps)
