use Rattle.pg_finders.proofs.Common.{◌≡◌, sym, ◌∙◌, arith, below_more, rules, Some, eqb-true, get_or_default, owner_of, choice_in, is_same, row_at}
use Rattle.pg_dominion.proofs.RowsByPlace.{choice_at}
use Rattle.pg_finders.proofs.small.WayBack.{leads_some, leads_other}
use Rattle.pg_finders.proofs.small.rows.FirstRows.closes.Goals as goal

pub returns-in-Some : goal.returns-in-Some
returns-in-Some c =
    let g = c.args.self.now.game.now in
    let p = c.args.self.now.player in
    let rows = c.args.self.now.chosen.now in
    let v = (row_at rows c.args.at).0 in
    let o : owner_of g v ≡ p = search rules in
    let h : choice_in rows v ≡ Some c.in-Some.w =
    choice_at rows c.args.at c.args.self.now.few.different c.requires ∙ (sym c.choice.ensures ∙ c.in-Some.is) in
    record {
      none =
          λ f to l m. c.has_before.ensures.none f to (omega (arith, l))
          (sym (eqb-true c.in-Some.w (row_at rows to).0 ((leads_some g p (choice_in rows) v c.in-Some.w (row_at rows to).0 o h).1 m)));
    }

pub returns-in-None : goal.returns-in-None
returns-in-None c = search (rules, choice_at, c.args.self.now.few.different, c.requires, c.choice.ensures, c.in-None.is, is_same)

pub loop-w-preserved : goal.loop-w-preserved
loop-w-preserved c = below_more _ _ c.loop-w.invariant (λ to l. c.has_before-in-loop-w.ensures.none c.if-has_before.false to (omega (arith, l)))

pub returns : goal.returns
returns c = search (rules, c.successors-w-items.ensures.all, c.vertex-v.ensures, leads_other, get_or_default, c.loop-w.invariant, c.loop-w-test.false)
