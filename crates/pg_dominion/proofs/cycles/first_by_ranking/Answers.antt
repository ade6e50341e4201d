use Rattle.pg_dominion.proofs.Common.{inl, inr, cases_lt, IsOnBadCycle}
use Rattle.pg_dominion.proofs.SearchSteps.{OnTop-from_reaches, not_below}
use Rattle.pg_dominion.proofs.cycles.first_by_ranking.Goals as goal

pub returns-then-branch : goal.returns-then-branch
returns-then-branch c =
    let k = c.args.kept.now in
    let limit = c.in_ok-ranking.ranking.limit in
    record {
      has = (cc (c.has.ensures, c.if-not-has.false), OnTop-from_reaches k limit (c.in_ok-leads_back.ensures c.if-branch.true));
      least = λ u w. not_below (IsOnBadCycle k) limit u (λ v l. elim (cases_lt v c.args.from) [
        | inl b ↦ c.requires.none v b
        | inr b ↦ c.in_ok-is_ranked.ensures c.if-not-branch.false v b l
      ]) w;
    }
