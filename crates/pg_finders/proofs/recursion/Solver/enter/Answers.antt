use Rattle.pg_finders.proofs.Common.{◌≡◌, ◌<◌, ◌∙◌, ℕ, Option, None, Some, Graph, VertexSet, In, length, arith, refl, sym, ap, subst, on_ok_weaker, or_left}
use Rattle.pg_finders.proofs.Common.{member_below, settled_of}
use Rattle.std.specs.Option.{IsSome}
use Rattle.pg_finders.specs.declared.recursion.Solver.{Solver}
use Rattle.pg_finders.specs.private.Solved.{IsTop}
use Rattle.pg_finders.specs.private.recursion.Partition.{BeginsAgain}
use Rattle.pg_finders.proofs.Sets.{no_both}
use Rattle.pg_finders.proofs.recursion.ActivePart.{BeginsPart, running_partition, greatest_below, begins_part, entered, entered_fewer}
use Rattle.pg_finders.proofs.recursion.Solver.enter.Goals as goal

-- where a vertex is active, there is a greatest priority
top_some : (g : Graph) (U : VertexSet) (n : ℕ) (top : Option ℕ) → IsTop g U n top → (v : ℕ) → In U v → v < n → IsSome top
top_some g U n None t v i l = absurd (no_both i (t v l))
top_some g U n (Some d) t v i l = refl

pub unwrap-top-requires : goal.unwrap-top-requires
unwrap-top-requires c =
    let s = c.requires.some in
    let l = member_below c.args.self.now.partition.subgame.active s.0 s.1 in
    top_some _ _ _ c.top.result c.top.ensures.top s.0 s.1 (omega (arith, l, c.requires.running.sizes.active))

-- nothing is settled from its end on
none_at : (c : goal.After-begin-arg-2-1) → c.end-none.result.from ≡ length (settled_of c.args.self.now.partition.settled c.end-none.result.player)
none_at c = c.end-none.ensures.from ∙ ap (λ p. length (settled_of c.args.self.now.partition.settled p)) (sym c.end-none.ensures.player)

pub begin-requires-clause-partition : goal.begin-requires-clause-partition
begin-requires-clause-partition c = running_partition c.requires.running

pub begin-requires-clause-below : goal.begin-requires-clause-below
begin-requires-clause-below c = rw c.deref.ensures.value (greatest_below c.requires.running c.in_ok-list_greatest.ensures.greatest)

pub begin-requires-clause-once : goal.begin-requires-clause-once
begin-requires-clause-once c = rw c.deref.ensures.value c.in_ok-list_greatest.ensures.greatest.once

pub begin-requires-clause-tops : goal.begin-requires-clause-tops
begin-requires-clause-tops c v t i = (let w = c.requires.running.subgame.successor v i in (w.0, w.1, or_left _ _ w.2))

pub begin-requires-clause-others : goal.begin-requires-clause-others
begin-requires-clause-others c v i n o = c.requires.running.subgame.successor v i

pub push_frame-requires : goal.push_frame-requires
push_frame-requires c = c.in_ok-tops.ensures.begins.few

abbrev After : Type 0
After = goal.After-push_frame

-- the solver before its part waits
abbrev begun : After → Solver
begun c = record c.args.self.now {
  partition = c.begin.new.self;
  order = c.list_greatest.new.self;
  opened = c.list_greatest.new.list;
  list = c.begin.new.list;
}

begins : (c : After) → BeginsPart c.args.view.now.game.now c.of_parity-player.result c.in_ok-tops.tops c.count-even.result c.count-odd.result
    c.args.self.now (begun c)
begins c = begins_part c.requires.running (begun c) c.end-none.ensures.player
    (c.end-none.ensures.from ∙ ap (λ p. length (settled_of c.args.self.now.partition.settled p)) (sym c.end-none.ensures.player))
    (sym c.of_parity-player.ensures) c.in_ok-list_greatest.ensures.greatest
    (subst (λ xs. BeginsAgain c.args.view.now.game.now c.end-none.result xs c.args.self.now.partition c.begin.new.self c.begin.new.list.items c.in_ok-tops.tops)
    c.deref.ensures.value c.in_ok-tops.ensures.begins) c.in_ok-tops.ensures.partition c.in_ok-list_greatest.ensures.order refl refl refl
    c.count-even.ensures c.count-odd.ensures

pub returns-clause-running : goal.returns-clause-running
returns-clause-running c = on_ok_weaker c.push_frame.result (λ w. entered c.requires.running w (begins c)) c.push_frame.ensures.pushes

pub returns-clause-fewer : goal.returns-clause-fewer
returns-clause-fewer c = on_ok_weaker c.push_frame.result (λ w. entered_fewer c.requires.running w (begins c)) c.push_frame.ensures.pushes
