use Rattle.pg_finders.proofs.Common.{subst, take_all, arith, listed, In}
use Rattle.std.proofs.lemmas.List.{take_more}
use Rattle.pg_finders.specs.private.recursion.Partition.{HasTested}
use Rattle.pg_finders.proofs.recursion.AttractedVertices.{side_later, tests_none, tests_then}
use Rattle.pg_finders.proofs.recursion.partition.Partition.test_all.Goals as goal

pub loop-v-init : goal.loop-v-init
loop-v-init c = tests_none c.requires.fit

pub test-requires-clause-target : goal.test-requires-clause-target
test-requires-clause-target c =
    let h = c.loop-v.invariant in
    record {
      side = side_later c.requires.target.side h.fewer;
      apart = λ w i. h.fewer.free w (c.requires.target.apart w (subst (λ xs. In (listed xs) w) h.target_same i));
    }

pub loop-v-preserved : goal.loop-v-preserved
loop-v-preserved c = rw (take_more c.args.vertices.now c.loop-v.v-index 0 c.loop-v-test.true) (tests_then c.loop-v.invariant c.in_ok-test.ensures)

pub returns : goal.returns
returns c = subst (λ vs. HasTested c.args.game.now c.args.free c.args.target vs c.args.self.now c.args.list.now.items c.loop-v.self c.loop-v.list.items)
    (take_all c.loop-v.v-index c.args.vertices.now (omega arith)) c.loop-v.invariant
