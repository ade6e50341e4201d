use Rattle.pg_finders.proofs.Common.{◌≡◌, refl, arith, below_more, rules, IsNone, owner_of, In, members, member_below}
use Rattle.pg_finders.proofs.solitaire.ForcedPlayer.{one_from_single}
use Rattle.pg_finders.proofs.solitaire.has_one_successor.Goals.{else-has-via-then-has+then-eq+else-is_none, else-has-via-then-has+else-eq}
use Rattle.pg_finders.proofs.solitaire.has_one_successor.Goals.{else-has-via-else-has}
use Rattle.pg_finders.proofs.solitaire.has_one_successor.Goals as goal

pub returns-then-is_none : goal.returns-then-is_none
returns-then-is_none c =
    let v = c.loop-v.v in
    let i : In (members c.args.view.now.mask.now) v = search rules in
    let o : owner_of c.args.view.now.game.now v ≡ c.args.player = search rules in
    let n : IsNone c.single_successor.result = search rules in
    (λ t. absurd (cc t), λ h. absurd (c.args.view.now.no_dead_end v (i, c.single_successor.ensures.none n (λ w x a b d e. h v w x i o a b d e))))

pub loop-v-preserved : goal.loop-v-preserved
loop-v-preserved c = below_more _ _ c.loop-v.invariant
    (elim c.else-has.branch [
      | else-has-via-then-has+then-eq+else-is_none w ↦
          (λ i o. one_from_single c.args.view.now.game.now (members c.args.view.now.mask.now) c.loop-v.v w.single_successor.result
          (λ n. search rules) w.single_successor.ensures.found)
      | else-has-via-then-has+else-eq w ↦ (λ i o. absurd (search rules))
      | else-has-via-else-has w ↦ (λ i o. absurd (search rules))
    ])

pub returns : goal.returns
returns c = (
  λ t v w x i o a b d e. c.loop-v.invariant v
      (omega (arith, member_below c.args.view.now.mask.now v i, c.args.view.now.size, c.loop-v-test.false, c.len-v-end.ensures.number)) i o w x a b d e,
  λ h. refl,
)
