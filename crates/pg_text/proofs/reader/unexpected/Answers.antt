use Rattle.pg_text.proofs.reader.TokenSteps.{unexpected_later, unexpected_here}
use Rattle.pg_text.proofs.reader.unexpected.Goals as goal

pub returns-in-Some : goal.returns-in-Some
returns-in-Some g c u = unexpected_later u c.in-Some.bad c.in-Some.ensures.place

pub returns-in-None : goal.returns-in-None
returns-in-None g c u = unexpected_here u g.G.Grammar.IsText c.in-None.ensures.place
