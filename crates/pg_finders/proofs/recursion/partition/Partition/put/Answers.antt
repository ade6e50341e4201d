use Rattle.pg_finders.proofs.Common.{◌∙◌, subst, Plan, SameAt}
use Rattle.pg_finders.specs.declared.recursion.partition.Partition.{Partition}
use Rattle.pg_finders.specs.declared.recursion.settled.Tail.{Tail}
use Rattle.pg_finders.specs.private.recursion.Partition.{HasFewerFree}
use Rattle.pg_finders.proofs.recursion.AttractedVertices.{fit_push}
use Rattle.pg_finders.proofs.recursion.partition.Partition.put.Goals as goal

fewer_planned : {t : Tail} {x y : Partition} {plan : Plan} → HasFewerFree t x y
    → HasFewerFree t x (record y { subgame = record y.subgame { plan = plan } })
fewer_planned h = record { other = h.other; own = h.own; active = h.active; rest = h.rest; free = h.free }

pub returns-clause-fit : goal.returns-clause-fit
returns-clause-fit c = λ n old.
    let now = c.remove.ensures.partition n old.partition in
    rw c.in_ok-push.ensures.items (fit_push c.args.v (fewer_planned c.remove.ensures.fewer) old (record {
      sizes = record {
        active = now.sizes.active;
        cursors = now.sizes.cursors;
        plan = c.write.ensures.size ∙ now.sizes.plan;
      };
      placed = now.placed;
      apart = now.apart;
    }) c.requires.free c.remove.ensures.free)

pub returns-clause-puts : goal.returns-clause-puts
returns-clause-puts c = record {
  fewer = fewer_planned c.remove.ensures.fewer;
  free = c.remove.ensures.free;
  winner = c.write.ensures.winner;
  choice_is = c.write.ensures.choice;
  elsewhere = λ w n. subst (λ plan. SameAt plan c.write.new.self w) c.remove.ensures.plan (c.write.ensures.elsewhere w n);
}
