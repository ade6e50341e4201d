use Rattle.pg_text.proofs.Common.{ap, map, line_of, refl}
use Rattle.pg_text.proofs.solution_text.TokenSteps.{reads_none}
use Rattle.pg_text.proofs.solution_text.SolutionText.new.Goals as goal

pub returns : goal.returns
returns c = reads_none _ _ _ _ (ap (map line_of) c.new.ensures.items) refl refl refl
