-- A vertex of a board's game as numbers, and why there is none.
use Rattle.std.specs.Prelude.{ℕ, ◌≡◌, ◌<◌, ◌≤◌, ◌++◌, List, length, drop, Option, Some, None}
use Rattle.pg_game.specs.Player.{digit_of}
use Rattle.pg_game.specs.Graph.{id_of, priority_of, owner_of, successors_of}
use Rattle.pg_board.specs.BoardRecord.{BoardRecord, SessionRecord}
use Rattle.pgboard_c.specs.declared.vertices.VertexNumbers.{VertexNumbers}
use Rattle.pgboard_c.specs.declared.fault.BoardFault.TheVariants as board_fault
use Rattle.pgboard_c.specs.declared.fault.Fault.{Fault}
use Rattle.pgboard_c.specs.declared.fault.Fault.TheVariants as fault
use Rattle.pgboard_c.specs.Board.{SessionOutcome, IsReadOutcome}

abbrev pub number_of_vertices : Option SessionRecord → ℕ
number_of_vertices None = 0
number_of_vertices (Some s) = length s.board.graph

-- what the call writes of a vertex
pub record VertexLists : Type 0 where
  pub numbers : VertexNumbers
  pub successors : List ℕ

abbrev pub vertex_lists : VertexNumbers → List ℕ → VertexLists
vertex_lists n successors = record { numbers = n; successors = successors }

-- what the board's game says of a vertex; the successors are at the front of the array, and what is after them is unchanged
pub record IsVertexRead (s : BoardRecord) (v : ℕ) (old new : VertexLists) : Type 0 where
  pub below : v < length s.graph
  pub id : new.numbers.id ≡ id_of s.graph v
  pub priority : new.numbers.priority ≡ priority_of s.graph v
  pub owner : new.numbers.owner ≡ digit_of (owner_of s.graph v)
  pub count : new.numbers.successors ≡ length (successors_of s.graph v)
  pub row : new.successors ≡ successors_of s.graph v ++ drop new.numbers.successors old.successors
  pub fit : new.numbers.successors ≤ length old.successors

-- the game has no such vertex, or the array is shorter than its successors
abbrev pub IsVertexFault : BoardRecord → ℕ → VertexLists → Fault → Type 0
IsVertexFault s v old (fault.Board (board_fault.Vertex n)) = (n ≡ length s.graph) × (n ≤ v)
IsVertexFault s v old (fault.Capacity n) = (v < length s.graph) × (n ≡ length (successors_of s.graph v)) × (length old.successors < n)
IsVertexFault s v old other = ⊥

abbrev pub IsVertexOutcome : ℕ → VertexLists → VertexLists → SessionOutcome
IsVertexOutcome v old new = IsReadOutcome (λ s. IsVertexRead s v old new) (λ s. IsVertexFault s v old) (new ≡ old)
