use Rattle.pg_dominion.proofs.Common.{named, choice_in}
use Rattle.pg_game.proofs.Rotate.{good_from_none}
use Rattle.pg_dominion.proofs.claim.NoWayBack.{none_on_bad_walk}
use Rattle.pg_dominion.proofs.claim.is_seen_sound.Goals as goal

pub returns-then-not-branch-clause-sound : goal.returns-then-not-branch-clause-sound
returns-then-not-branch-clause-sound c = λ _.
    let g = c.args.game.now in
    let claim = c.args.claim.now in
    let h = c.in_ok-names_bad_vertex.ensures in
    record {
      shape = h.shape;
      good = good_from_none g claim.player (named claim.rows) (choice_in claim.rows)
          (none_on_bad_walk g claim.player claim.rows (cc (h.bad, c.if-not-branch.true)));
    }

pub returns-clause-sound : goal.returns-clause-sound
returns-clause-sound c = λ e.
    let claim = c.args.claim.now in
    record {
      shape = c.in_ok-names_bad_vertex.ensures.shape;
      good = good_from_none c.args.game.now claim.player (named claim.rows) (choice_in claim.rows) (c.in_ok-is_shown.ensures e);
    }
