use Rattle.pgboard.proofs.Common.{◌∙◌}
use Rattle.pgboard.proofs.device.Pieces.{wrote_more}
use Rattle.pgboard.proofs.device.write_all.Goals as goal

pub rest-preserved : goal.rest-preserved
rest-preserved g c =
    (wrote_more _ _ _ _ _ _ c.in-Ok.n c.rest.invariant.0.1 c.rest.invariant.0.2 c.in-Ok.ensures.bytes, c.in-Ok.ensures.failures ∙ c.rest.invariant.1)
