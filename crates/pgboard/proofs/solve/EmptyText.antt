-- The empty text says nothing of a game.
use Rattle.pgboard.proofs.Common.{rules, ◌≡◌, ℕ, zero, suc, ◌<◌, [], length, refl, arith, Some, None, slice_get, replicate, length-replicate, Graph, KnownRows}
use Rattle.pgboard.proofs.Common.{SpellsSolution, IsKnownTextOf}

nothing_spelled : SpellsSolution [] []
nothing_spelled = record { tokens = []; spelled = tt; grammar = (None, refl); numbers = tt; winners = tt }

nothing_at : (n v : ℕ) (rows : KnownRows) → rows ≡ replicate n None → v < n → slice_get rows v ≡ Some None
nothing_at zero v rows is lt = absurd (omega (arith, lt))
nothing_at (suc n) zero rows is lt = rw is refl
nothing_at (suc n) (suc v) rows is lt = rw is (nothing_at n v (replicate n None) refl (omega (arith, lt)))

pub says_nothing : (g : Graph) (rows : KnownRows) → rows ≡ replicate (length g) None → IsKnownTextOf g [] rows
says_nothing g rows is = search (rules, nothing_spelled, length-replicate, nothing_at)
