-- Equality of games, as a test.
use Rattle.std.specs.Prelude.{Bool, nat_eq}
use Rattle.std.specs.Ordering.{on, eq_of_both}
use Rattle.std.specs.Cmp.Lexicographic.{pointwise}
use Rattle.pg_game.specs.Player.{digit_of}
use Rattle.pg_game.specs.Graph.{Graph, Vertex}

abbrev pub same_vertex : Vertex → Vertex → Bool
same_vertex =
    eq_of_both (on (λ x. x.id) nat_eq) (eq_of_both (on (λ x. x.priority) nat_eq)
    (eq_of_both (on (λ x. digit_of x.owner) nat_eq) (on (λ x. x.successors) (pointwise nat_eq))))

abbrev pub same_graph : Graph → Graph → Bool
same_graph = pointwise same_vertex
