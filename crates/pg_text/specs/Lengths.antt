-- The greatest lengths of written texts, which follow from the limits of games.
use Rattle.std.specs.Prelude.{ℕ, ◌+◌, ◌*◌, List, length, codes}
use Rattle.pg_game.specs.Specification.{max_vertices, max_edges}

-- the digits of the greatest number
abbrev pub most_digits : ℕ
most_digits = 10

-- a word, a number, a semicolon and a line feed
abbrev pub greatest_header : List ℕ → ℕ
greatest_header word = length word + most_digits + 2

-- for each vertex an identifier, a priority and an owner, each with a space, and a line feed; for each edge an identifier with a comma or semicolon
abbrev pub greatest_game_text : ℕ
greatest_game_text = greatest_header (codes "parity ") + max_vertices * ((most_digits + 1) + (most_digits + 1) + 2 + 1) + max_edges * (most_digits + 1)

-- for each vertex an identifier, a space, a winner, a semicolon and a line feed
abbrev pub greatest_winners_text : ℕ
greatest_winners_text = greatest_header (codes "paritysol ") + max_vertices * (most_digits + 2 + 2)

-- and for each vertex a space and an identifier
abbrev pub greatest_solution_text : ℕ
greatest_solution_text = greatest_winners_text + max_vertices * (1 + most_digits)
