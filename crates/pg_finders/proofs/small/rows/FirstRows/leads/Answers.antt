use Rattle.pg_finders.proofs.Common.{◌≡◌, sym, ◌∙◌, rules, arith, common_steps, Some, owner_of, choice_in, is_same, row_at}
use Rattle.pg_dominion.proofs.RowsByPlace.{choice_at}
use Rattle.pg_finders.proofs.small.WayBack.{leads_some}
use Rattle.pg_finders.proofs.small.rows.FirstRows.leads.Goals as goal

pub returns-in-Some : goal.returns-in-Some
returns-in-Some c =
    let g = c.args.self.now.game.now in
    let p = c.args.self.now.player in
    let rows = c.args.self.now.chosen.now in
    let v = (row_at rows c.args.from).0 in
    let o : owner_of g v ≡ p = search rules in
    let h : choice_in rows v ≡ Some c.in-Some.x =
    choice_at rows c.args.from c.args.self.now.few.different c.requires.from ∙ (sym c.choice.ensures ∙ c.in-Some.is) in
    rw c.vertex-w.ensures (leads_some g p (choice_in rows) v c.in-Some.x (row_at rows c.args.to).0 o h)

pub returns-in-None : goal.returns-in-None
returns-in-None c = grind (arith, common_steps, choice_at, c.args.self.now.few.different, c.requires.from, c.choice.ensures, c.in-None.is, is_same)
