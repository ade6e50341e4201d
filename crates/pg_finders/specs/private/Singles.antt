-- The vertices that alone are dominions, as a set; and the claim that stays at each of them.
use Rattle.std.specs.Prelude.{ℕ, Bool, ◌&&◌, ◌||◌, ◌==◌, not, Some}
use Rattle.std.specs.List.{list_any}
use Rattle.pg_game.specs.declared.player.Player.{Player}
use Rattle.pg_game.specs.Player.{of_parity, same_player}
use Rattle.pg_game.specs.Graph.{Graph, owner_of, priority_of, successors_of}
use Rattle.pg_game.specs.VertexSet.{VertexSet}
use Rattle.pg_game.specs.Kept.{Choices}

-- a successor in the set that is another vertex
abbrev pub leads_away : Graph → VertexSet → ℕ → Bool
leads_away g U v = list_any (λ w. U w && not (w == v)) (successors_of g v)

abbrev pub leads_to_itself : Graph → ℕ → Bool
leads_to_itself g v = list_any (λ w. w == v) (successors_of g v)

-- the vertices of the set that alone are dominions of the player
abbrev pub loops : Graph → VertexSet → Player → VertexSet
loops g U p v = U v && same_player (of_parity (priority_of g v)) p && leads_to_itself g v && (same_player (owner_of g v) p || not (leads_away g U v))

-- each vertex is its own choice
abbrev pub itself : Choices
itself v = Some v
