use Rattle.pg_finders.proofs.Common.{◌∙◌, sym, arith, members, member_below}
use Rattle.pg_finders.proofs.solitaire.ForcedPlayer.{forced_none, forced_next, forced_skip, forced_below}
use Rattle.pg_finders.proofs.solitaire.kept_of.Goals.{then-has, else-has}
use Rattle.pg_finders.proofs.solitaire.kept_of.Goals as goal

pub vertices-init : goal.vertices-init
vertices-init c = forced_none c.args.solitaire.now.view.game.now (members c.args.solitaire.now.view.mask.now) c.args.solitaire.now.forced c.in_ok-kept.kept
    (c.in_ok-kept.ensures.game ∙ c.forward-game.ensures) c.in_ok-kept.ensures.nothing

pub vertices-preserved : goal.vertices-preserved
vertices-preserved c =
    let g = c.args.solitaire.now.view.game.now in
    let U = members c.args.solitaire.now.view.mask.now in
    let q = c.args.solitaire.now.forced in
    let v = c.vertices.v in
    elim c.if-has.branch [
      | then-has w ↦ rw w.kept-is (forced_next g U q v c.vertices.kept w.keep.new.self w.is_bad-bad.result w.forced_choice.result (sym c.has.ensures ∙ w.if-has.true)
          (rw c.forward-game.ensures at w.is_bad-bad.ensures) w.keep.ensures w.forced_choice.ensures.own w.forced_choice.ensures.other c.vertices.invariant)
      | else-has w ↦ rw w.kept-is (forced_skip g U q v c.vertices.kept (sym c.has.ensures ∙ w.if-has.false) c.vertices.invariant)
    ]

pub keep-requires-clause-choice : goal.keep-requires-clause-choice
keep-requires-clause-choice c =
    rw c.vertices.invariant.game (forced_below c.args.solitaire.now.view.game.now (members c.args.solitaire.now.view.mask.now) c.args.solitaire.now.forced c.vertices.v
    c.forced_choice.result (λ x i. omega (arith, member_below c.args.solitaire.now.view.mask.now x i, c.args.solitaire.now.view.size))
    c.forced_choice.ensures.own c.forced_choice.ensures.other)
