use Rattle.pgboard_c.proofs.Common.{◌≡◌, game_lists}
use Rattle.pgboard_c.proofs.arrays.GameOfArrays.{specs_below}
use Rattle.pgboard_c.proofs.arrays.GameArrays.specs.Given as goal

abbrev pub invariant-loop-v : goal.invariant-loop-v
invariant-loop-v l = l.specs ≡ specs_below (game_lists l.self) l.v
