use Rattle.pg_dominion.proofs.Common.{◌≡◌, ℕ, ◌<◌, IsOnBadCycle}
use Rattle.pg_dominion.proofs.cycles.search_from.Given as goal

abbrev pub invariant-starts : goal.invariant-starts
invariant-starts l = record {
  graph : l.searches.labels.kept.now ≡ l.kept;
  none : (u : ℕ) → u < l.v → IsOnBadCycle l.kept u → ⊥;
}
