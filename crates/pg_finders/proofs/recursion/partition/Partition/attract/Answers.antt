use Rattle.pg_finders.proofs.Common.{◌≡◌, ◌++◌, ◌<◌, All, length, sym, subst, settled_of}
use Rattle.std.proofs.lemmas.Bool.{lt-ltb}
use Rattle.pg_finders.specs.private.recursion.Settled.{IsPlaced}
use Rattle.pg_finders.proofs.recursion.AttractedVertices.{AttractsInTwo, half_open, fit_below, fit_from, settled_partition, attracts_free}
use Rattle.pg_finders.proofs.recursion.partition.Partition.attract.Goals as goal

pub attract_from-requires-clause-below : goal.attract_from-requires-clause-below
attract_from-requires-clause-below c = λ v i. lt-ltb v (length c.args.game.now) (fit_below {t = c.args.free} c.in_ok-test_all.ensures.fit v i)

pub attract_from-requires-clause-done : goal.attract_from-requires-clause-done
attract_from-requires-clause-done c = half_open {target = c.args.target} (record {
  empty = c.clear.ensures.items;
  aims = c.requires.target;
  at_most = c.requires.at_most;
  tests = c.in_ok-test_all.ensures;
})

in_two : (c : goal.In_ok-add_all) → AttractsInTwo c.args.game.now c.args.free c.args.target c.args.vertices.now c.args.self.now c.clear.new.self.items
    c.test_all.new.self c.test_all.new.list.items c.attract_from.new.state c.attract_from.new.list.items
in_two c =
    let h = c.in_ok-attract_from.ensures in
    record {
      partition = c.requires.partition;
      tests = record { empty = c.clear.ensures.items; aims = c.requires.target; at_most = c.requires.at_most; tests = c.in_ok-test_all.ensures };
      keeps = h.grown;
      fit = h.ready;
      done = h.done;
    }

placed : (c : goal.In_ok-add_all) → IsPlaced (length c.args.game.now) c.add_all.new.self
placed c =
    let fit = c.in_ok-attract_from.ensures.ready in
    c.in_ok-add_all.ensures.placed (length c.args.game.now) fit.partition.placed
    (subst (λ xs. All (λ v. v < length c.args.game.now) xs) (sym c.deref.ensures.value) fit.below)

own : (c : goal.In_ok-add_all)
    → settled_of c.add_all.new.self c.args.target.player ≡ settled_of c.attract_from.new.state.settled c.args.target.player ++ c.attract_from.new.list.items
own c = subst (λ xs. settled_of c.add_all.new.self c.args.target.player ≡ settled_of c.attract_from.new.state.settled c.args.target.player ++ xs)
    c.deref.ensures.value c.in_ok-add_all.ensures.own

pub returns-clause-partition : goal.returns-clause-partition
returns-clause-partition c = settled_partition c.args.target (in_two c) c.add_all.new.self (placed c) (own c) c.in_ok-add_all.ensures.other

pub returns-clause-attracts : goal.returns-clause-attracts
returns-clause-attracts c = attracts_free c.args.target (in_two c) c.add_all.new.self (placed c) (own c) c.in_ok-add_all.ensures.other

pub attract_from-requires-clause-ready : goal.attract_from-requires-clause-ready
attract_from-requires-clause-ready c = fit_from c.in_ok-test_all.ensures.fit
