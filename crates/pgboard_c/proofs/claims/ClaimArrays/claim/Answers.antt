use Rattle.pgboard_c.proofs.Common.{rules, ◌≡◌, ◌∙◌, [], ◌∷◌, sym, arith}
use Rattle.std.specs.Prelude.{◌++◌, map}
use Rattle.std.specs.List.{range_with_len}
use Rattle.std.proofs.lemmas.List.FromFn.{map-range_with_len_more}
use Rattle.pgboard_c.specs.Posting.{claim_lists, claim_row}
use Rattle.pgboard_c.proofs.claims.ClaimArrays.claim.Goals as goal

pub loop-i-preserved : goal.loop-i-preserved
loop-i-preserved c =
    let claim = claim_lists c.args.self.now in let i = c.loop-i.i in
    let pushed : c.push.new.self.items ≡ map (claim_row claim) (range_with_len 0 i) ++ claim_row claim i ∷ [] = search rules in
    pushed ∙ sym (map-range_with_len_more (claim_row claim) 0 i i (omega arith))
