use Rattle.pgboard_c.proofs.Common.{◌≡◌}
use Rattle.std.specs.Prelude.{map}
use Rattle.std.specs.List.{range_with_len}
use Rattle.pgboard_c.specs.Posting.{claim_lists, claim_row}
use Rattle.pgboard_c.proofs.claims.ClaimArrays.claim.Given as goal

abbrev pub invariant-loop-i : goal.invariant-loop-i
invariant-loop-i l = l.rows.items ≡ map (claim_row (claim_lists l.self)) (range_with_len 0 l.i)
