use Rattle.pg_dominion.proofs.Common.{◌≡◌, winner_of, IsStrategy}
use Rattle.std.specs.Prelude.{nat_lt}
use Rattle.pg_text.specs.Solution.{choice_of}
use Rattle.pg_dominion.proofs.solution.joint_strategy.Given as goal

abbrev pub invariant-vertices : goal.invariant-vertices
invariant-vertices l = record {
  game : l.kept.game.now ≡ l.candidate.game.now;
  strategy : IsStrategy l.kept (λ x. nat_lt x l.v) (winner_of l.candidate.solution.now.rows) (choice_of l.candidate.solution.now.rows);
}
