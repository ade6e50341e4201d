use Rattle.pg_text.proofs.Common.{refl}
use Rattle.pg_text.proofs.game_text.TokenSteps.{says}
use Rattle.pg_text.proofs.game_text.GameTextGrammar.lines.Goals as goal

pub returns : goal.returns
returns c ts s k i = rw c.into_builder.ensures (says k refl (λ a. a.lines_are) i)
