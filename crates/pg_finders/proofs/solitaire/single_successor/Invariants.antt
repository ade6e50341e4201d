use Rattle.pg_finders.proofs.Common.{members}
use Rattle.pg_finders.proofs.solitaire.ForcedPlayer.{SingleSoFar}
use Rattle.pg_finders.proofs.solitaire.single_successor.Given as goal

abbrev pub invariant-loop-w : goal.invariant-loop-w
invariant-loop-w l = SingleSoFar l.view.game.now (members l.view.mask.now) l.v l.w-index l.single
