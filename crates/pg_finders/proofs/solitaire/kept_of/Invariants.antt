use Rattle.pg_finders.proofs.Common.{members, IsForcedBelow}
use Rattle.pg_finders.proofs.solitaire.kept_of.Given as goal

abbrev pub invariant-vertices : goal.invariant-vertices
invariant-vertices l = IsForcedBelow l.solitaire.view.game.now (members l.solitaire.view.mask.now) l.solitaire.forced l.v l.kept
