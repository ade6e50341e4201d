use Rattle.pg_finders.proofs.Common.{◌≡◌, ℕ, ◌<◌, owner_of, In, members, HasOneAt}
use Rattle.pg_finders.proofs.solitaire.has_one_successor.Given as goal

abbrev pub invariant-loop-v : goal.invariant-loop-v
invariant-loop-v l = (u : ℕ) → u < l.v → In (members l.view.mask.now) u → owner_of l.view.game.now u ≡ l.player → HasOneAt l.view.game.now (members l.view.mask.now) u
