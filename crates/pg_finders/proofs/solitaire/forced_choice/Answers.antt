use Rattle.pg_finders.proofs.Common.{members}
use Rattle.pg_finders.proofs.solitaire.ForcedPlayer.{some_single}
use Rattle.pg_finders.proofs.solitaire.forced_choice.Goals as goal

pub returns-then-eq-clause-own : goal.returns-then-eq-clause-own
returns-then-eq-clause-own c = λ o.
    let s = c.args.solitaire.now in
    some_single s.view.game.now (members s.view.mask.now) c.args.v _ c.single_successor.ensures.found
    (λ n. s.view.no_dead_end c.args.v (c.requires.inside, c.single_successor.ensures.none n (λ w x a b d e. s.one c.args.v w x c.requires.inside o a b d e)))
