-- Sets of vertices, as tests.
use Rattle.std.specs.Prelude.{ℕ, Bool, false, not, ◌&&◌, ◌||◌, List, length, IsTrue, nat_lt, slice_index_or, count_by}
use Rattle.pg_game.specs.Graph.{Graph}

abbrev pub VertexSet : Type 0
VertexSet = ℕ → Bool

abbrev pub In : VertexSet → ℕ → Type 0
In X v = IsTrue (X v)

-- the vertices of a game
abbrev pub all_vertices : Graph → VertexSet
all_vertices g v = nat_lt v (length g)

abbrev pub no_vertices : VertexSet
no_vertices v = false

abbrev pub union : VertexSet → VertexSet → VertexSet
union X Y v = X v || Y v

-- the vertices of X that are not in Y
abbrev pub without : VertexSet → VertexSet → VertexSet
without X Y v = X v && not (Y v)

-- the set of a mask: the places of its true entries
abbrev pub members : List Bool → VertexSet
members mask v = slice_index_or mask v false

-- the number of members of a mask's set
abbrev pub how_many : List Bool → ℕ
how_many mask = count_by (λ b. b) mask

abbrev pub Within : VertexSet → VertexSet → Type 0
Within X Y = (v : ℕ) → In X v → In Y v
