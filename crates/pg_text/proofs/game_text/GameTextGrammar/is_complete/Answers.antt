use Rattle.pg_text.proofs.game_text.TokenSteps.{complete, not_complete}
use Rattle.pg_text.proofs.game_text.GameTextGrammar.is_complete.Goals as goal

pub returns-in-Ready : goal.returns-in-Ready
returns-in-Ready c sound ts it k = complete k c.in-Ready.is

pub returns-in_default : goal.returns-in_default
returns-in_default c sound ts it k = not_complete k c.in_default.not-Ready
