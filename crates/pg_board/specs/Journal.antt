-- A board's journal: its entries, the oldest first.
use Rattle.std.specs.Prelude.{ℕ, ◌≡◌, ◌≤◌, ◌==◌, ◌↔◌, if◌then◌else◌, List, [], ◌∷◌, length, take, drop, flat_map}
use Rattle.std.specs.Prelude.{sum_by, filter, slice_get, nat_eq, Some, None}
use Rattle.std.specs.List.{IsDistinct}
use Rattle.pg_game.specs.declared.player.Player.{Player}
use Rattle.pg_game.specs.Graph.{Graph}
use Rattle.pg_game.specs.VertexSet.{In, all_vertices, union}
use Rattle.pg_game.specs.Attractor.{Attractor}
use Rattle.pg_dominion.specs.Claim.{ClaimRows, vertices, named, choice_in}
use Rattle.pg_dominion.specs.Attraction.{AttractInTurn}
use Rattle.pg_board.specs.declared.journal.Entry.{Entry}
use Rattle.pg_board.specs.State.{State, settled, rest_of, IsGoodOn, IsLawfulState, IsDominion}

abbrev pub Journal : Type 0
Journal = List Entry

-- the player and the choice of the first entry whose rows name the vertex
abbrev pub state_of : Journal → State
state_of [] v = None
state_of (e ∷ es) v = if named e.rows v then Some (e.player, choice_in e.rows v) else state_of es v

-- the rows of the entry's claim, and those that it attracted
abbrev pub claimed_rows : Entry → ClaimRows
claimed_rows e = take e.claimed e.rows

abbrev pub attracted_rows : Entry → ClaimRows
attracted_rows e = drop e.claimed e.rows

-- a post of the claim may add this entry in the state
pub record Answers (g : Graph) (st : State) (p : Player) (rows : ClaimRows) (e : Entry) : Type 0 where
  pub player : e.player ≡ p
  pub claimed : e.claimed ≤ length e.rows
  pub rest : claimed_rows e ≡ rest_of st rows
  pub exact : (v : ℕ) → In (union (settled st p) (named e.rows)) v ↔ Attractor g p (all_vertices g) (union (settled st p) (named (claimed_rows e))) v
  pub turns : AttractInTurn g p (all_vertices g) (union (settled st p) (named (claimed_rows e))) (attracted_rows e)

-- no vertex is in two rows; each entry answers its own claim, which is good on the state before it; each prefix leaves a lawful state
pub record IsLawful (g : Graph) (journal : Journal) : Type 0 where
  pub once : IsDistinct nat_eq (vertices (flat_map (λ e. e.rows) journal))
  pub good : (k : ℕ) (e : Entry) → slice_get journal k ≡ Some e → IsGoodOn g (state_of (take k journal)) e.player (claimed_rows e)
  pub answered : (k : ℕ) (e : Entry) → slice_get journal k ≡ Some e → Answers g (state_of (take k journal)) e.player (claimed_rows e) e
  pub states : (k : ℕ) → k ≤ length journal → IsLawfulState g (state_of (take k journal))

-- the journal begins with these entries
abbrev pub BeginsWith : Journal → Journal → Type 0
BeginsWith entries journal = take (length entries) journal ≡ entries

-- the number of settled vertices, of all and of one worker
abbrev pub number_settled : Journal → ℕ
number_settled journal = sum_by (λ e. length e.rows) journal

abbrev pub settled_by : Journal → ℕ → ℕ
settled_by journal worker = number_settled (filter (λ e. e.worker == worker) journal)

-- the claim is a dominion on what the first k entries leave
abbrev pub IsDominionAfter : Graph → Journal → ℕ → Player → ClaimRows → Type 0
IsDominionAfter g journal k p rows = (k ≤ length journal) × IsDominion g (state_of (take k journal)) p rows
