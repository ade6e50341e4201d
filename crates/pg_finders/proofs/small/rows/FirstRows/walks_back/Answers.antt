use Rattle.pg_finders.proofs.Common.{sym, ◌∙◌, subst, length-set, get_or-set_other, rules, IsNone, priority_of, Walk, Under, row_at}
use Rattle.pg_finders.proofs.Common.{arith}
use Rattle.pg_finders.proofs.small.WayBack.{reached_way, ways_push, no_way_back}
use Rattle.pg_finders.proofs.small.rows.FirstRows.walks_back.Goals as goal
use Rattle.pg_finders.proofs.Masks.{how_many-unset}

pub returns-then-to-start-clause-back : goal.returns-then-to-start-clause-back
returns-then-to-start-clause-back c = λ _.
    let g = c.args.self.now.game.now in
    let p = c.args.self.now.player in
    let rows = c.args.self.now.chosen.now in
    let way = reached_way g p rows c.args.self.now.done c.args.self.now.within c.args.start c.in-Some.to c.rows.left c.requires c.rows.invariant.walks
    c.in-Some.ensures.found in (
      way.0,
      subst (λ x. Walk (Under g p rows c.args.self.now.done (priority_of g (row_at rows c.args.start).0)) (row_at rows c.args.start).0 way.0
          (row_at rows x).0) c.if-to-start.true way.1,
    )

pub rows-smaller : goal.rows-smaller
rows-smaller c = omega (arith, how_many-unset c.rows.left c.in-Some.to c.in-Some.ensures.found.1)

pub rows-preserved : goal.rows-preserved
rows-preserved c =
    let g = c.args.self.now.game.now in
    let p = c.args.self.now.player in
    let rows = c.args.self.now.chosen.now in
    let way = reached_way g p rows c.args.self.now.done c.args.self.now.within c.args.start c.in-Some.to c.rows.left c.requires c.rows.invariant.walks
    c.in-Some.ensures.found in
    record {
      size = length-set c.rows.left c.in-Some.to _ ∙ c.rows.invariant.size;
      start = get_or-set_other c.rows.left c.in-Some.to c.args.start _ _ (λ e. c.if-to-start.false (sym e)) ∙ c.rows.invariant.start;
      walks = ways_push g p rows c.args.self.now.done c.args.self.now.within c.args.start c.in-Some.to c.rows.left c.rows.invariant.walks way;
    }

pub returns-clause-none : goal.returns-clause-none
returns-clause-none c = λ _.
    let none : IsNone c.next_reached.result = search rules in
    no_way_back c.args.self.now.game.now c.args.self.now.player c.args.self.now.chosen.now c.args.self.now.done c.args.self.now.within c.args.start c.rows.left
    c.args.self.now.few.different c.requires c.rows.invariant.start (c.next_reached.ensures.none none)
