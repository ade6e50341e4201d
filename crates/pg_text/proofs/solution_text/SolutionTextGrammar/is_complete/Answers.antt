use Rattle.pg_text.proofs.Common.{rules}
use Rattle.pg_text.proofs.solution_text.TokenSteps.{complete, not_complete}
use Rattle.pg_text.proofs.solution_text.SolutionTextGrammar.is_complete.Goals as goal

pub returns-in-Start : goal.returns-in-Start
returns-in-Start c sound ts it k = complete k c.in-Start.is

pub returns-in_default : goal.returns-in_default
returns-in_default c sound ts it k = not_complete k (λ h. search rules)
