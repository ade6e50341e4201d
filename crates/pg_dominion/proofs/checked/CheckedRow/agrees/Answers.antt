use Rattle.pg_dominion.proofs.Common.{◌≡◌, ◌∙◌, arith, rules, true≢false}
use Rattle.pg_dominion.proofs.checked.CheckedRow.agrees.Goals as goal

pub returns-then-eq : goal.returns-then-eq
returns-then-eq c = (
  λ t.
      let row = c.args.self.now in
      let o : row.owner ≡ c.args.player = search rules in
      let k = c.requires o in
      record {
        vertex = omega (arith, c.if-v-len.false, c.len.ensures.number);
        owner = search rules;
        priority = c.if-self-priority.false ∙ c.priority.ensures;
        own = λ _. (k.0, k.1, rw (c.as_slice-kept.ensures, k.1) at (c.has_edge.ensures.0 t));
        other = λ n. absurd (n o);
      },
  λ a. search (rules, true≢false, c.as_slice-kept.ensures, c.has_edge.ensures, a.own),
)
