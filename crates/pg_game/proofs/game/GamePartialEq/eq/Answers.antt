use Rattle.std.specs.Bool.{one_answer}
use Rattle.pg_game.proofs.game.Equality.{graphs_decide}
use Rattle.pg_game.proofs.game.GamePartialEq.eq.Goals as goal

pub returns-clause-test : goal.returns-clause-test
returns-clause-test c = rw (← c.self.view_is, ← c.other.view_is) (one_answer _ _ c.is_same.ensures (graphs_decide c.self.inside.forward c.other.inside.forward))
