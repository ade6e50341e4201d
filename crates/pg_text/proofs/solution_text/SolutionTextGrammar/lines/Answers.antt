use Rattle.pg_text.proofs.Common.{refl}
use Rattle.pg_text.proofs.solution_text.TokenSteps.{says, are_winners}
use Rattle.pg_text.proofs.solution_text.SolutionTextGrammar.lines.Goals as goal

pub returns : goal.returns
returns c ts s k i = says k refl (λ a. a.lines_are) (are_winners c.args.self.lines.items) i
