use Rattle.pg_game.proofs.Common.{◌≡◌, ◌+◌, ◌≤◌, drop, edges, max_edges}
use Rattle.pg_game.proofs.builder.GameBuilder.has_too_many_edges.Given as goal

abbrev pub invariant-lines : goal.invariant-lines
invariant-lines l = record {
  sum : l.edges + edges (drop l.v l.self) ≡ edges l.self;
  small : l.edges ≤ max_edges;
}
