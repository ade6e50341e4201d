use Rattle.pg_text.proofs.Common.{refl}
use Rattle.pg_text.proofs.game_text.TokenSteps.{reads_none}
use Rattle.pg_text.proofs.game_text.GameText.new.Goals as goal

pub returns : goal.returns
returns c = reads_none _ _ _ _ _ c.in_ok-new.ensures.specs refl refl refl c.in_ok-new.ensures.successors
