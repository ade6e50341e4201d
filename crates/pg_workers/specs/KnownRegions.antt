-- What is known of a game before it is solved, as regions: what a run keeps of it, and why it refuses a set that is none.
use Rattle.std.specs.Prelude.{ℕ, ◌≡◌, ◌+◌, ◌-◌, ◌<◌, ◌↔◌, false, Option, List, [], length, nat_eq, Some, option_map, slice_get}
use Rattle.std.specs.List.{Contains, IsDistinct}
use Rattle.pg_game.specs.declared.player.Player.{Player}
use Rattle.pg_game.specs.declared.player.Player.TheVariants.{Even, Odd}
use Rattle.pg_game.specs.Graph.{Graph, id_of}
use Rattle.pg_game.specs.VertexSet.{In, all_vertices}
use Rattle.pg_game.specs.Attractor.{Attractor}
use Rattle.pg_game.specs.Region.{IsRegion}
use Rattle.pg_text.specs.Known.{KnownRows, known_of, known_choice}
use Rattle.pg_dominion.specs.Claim.{ClaimRows}
use Rattle.pg_finders.specs.Claims.{rows_below}
use Rattle.pg_dominion.specs.KeptEdges.{own_choices}
use Rattle.pg_dominion.specs.declared.claim.ClaimFault.TheVariants.{Shape, Cycle}
use Rattle.pg_board.specs.declared.journal.Refusal.{Refusal}
use Rattle.pg_board.specs.declared.journal.Refusal.TheVariants as refusal
use Rattle.pg_board.specs.State.{State, settled}
use Rattle.pg_board.specs.Journal.{Journal, state_of, IsLawful}
use Rattle.pg_board.specs.Refusal.{Refuses}
use Rattle.pg_board.specs.Finish.{MayGiveUp}
use Rattle.pg_finders.specs.Steps.{priority_count}
use Rattle.pg_workers.specs.declared.known.SolveFault.{SolveFault}
use Rattle.pg_workers.specs.declared.known.SolveFault.TheVariants as fault
use Rattle.pg_workers.specs.declared.known.KnownFault.{KnownFault}
use Rattle.pg_workers.specs.declared.known.KnownFault.TheVariants as known_fault

-- the player's known set is a region of his, with the known choices
abbrev pub IsKnownRegion : Graph → KnownRows → Player → Type 0
IsKnownRegion g known p = IsRegion g p (known_of known p) (known_choice known)

-- what is known stays so in the state: the player wins, by the known choice where he owns the vertex
abbrev pub KeepsKnown : Graph → KnownRows → State → Type 0
KeepsKnown g known st = (p : Player) (v : ℕ) → In (known_of known p) v → st v ≡ Some (p, own_choices g p (known_choice known) v)

-- the known set as rows: its vertices in order, with the choices at those that the player owns
abbrev pub known_rows : Graph → KnownRows → Player → ClaimRows
known_rows g known p = rows_below (known_of known p) (own_choices g p (known_choice known)) (length g)

-- the player attracts the vertex to his known set
abbrev pub IsAttractedToKnown : Graph → KnownRows → Player → ℕ → Type 0
IsAttractedToKnown g known p v = Attractor g p (all_vertices g) (known_of known p) v

-- the number of numbers with the property
pub record HasCount (P : ℕ → Type 0) (n : ℕ) : Type 0 where
  pub numbers : List ℕ
  pub distinct : IsDistinct nat_eq numbers
  pub all : (v : ℕ) → Contains numbers v ↔ P v
  pub size : length numbers ≡ n

-- the number of vertices that the players attract to their known sets
pub record IsKnownSize (g : Graph) (known : KnownRows) (n : ℕ) : Type 0 where
  pub of_even : ℕ
  pub of_odd : ℕ
  pub even : HasCount (IsAttractedToKnown g known Even) of_even
  pub odd : HasCount (IsAttractedToKnown g known Odd) of_odd
  pub sum : n ≡ of_even + of_odd

-- a call may give up under the limit of steps on the vertices that no player attracts to his known set
abbrev pub MayGiveUpFrom : Option ℕ → Graph → KnownRows → Type 0
MayGiveUpFrom limit g known = (n : ℕ) × IsKnownSize g known n × MayGiveUp limit (priority_count g (all_vertices g)) (length g - n)

-- nothing is settled for the player
abbrev pub HasNone : Journal → Player → Type 0
HasNone journal p = (v : ℕ) → settled (state_of journal) p v ≡ false

-- a reason to refuse a set that is no region, if nothing is settled for its player
abbrev pub IsOfPost : Refusal → Type 0
IsOfPost (refusal.Claim e) = Unit {0}
IsOfPost (refusal.Lost v) = Unit {0}
IsOfPost (refusal.Open v w) = Unit {0}
IsOfPost other = ⊥

-- the known set has a vertex and is no region, and this is a board's reason to refuse its rows
pub record IsRefusedKnown (g : Graph) (journal : Journal) (known : KnownRows) (p : Player) (e : Refusal) : Type 0 where
  pub nonempty : 0 < length (known_rows g known p)
  pub no_region : IsKnownRegion g known p → ⊥
  pub refused : Refuses g (state_of journal) p (known_rows g known p) e
  pub of_post : IsOfPost e

-- the state before the post of a player's known set: nothing for Even, and for Odd what Even attracts to his set, a region
abbrev pub IsBefore : Graph → KnownRows → Player → Journal → Type 0
IsBefore g known Even journal = journal ≡ []
IsBefore g known Odd journal =
    IsKnownRegion g known Even × ((v : ℕ) → In (settled (state_of journal) Even) v ↔ IsAttractedToKnown g known Even v) × HasNone journal Odd

-- the player's known set is no region, and its post is refused so on the board before it
pub record IsRefusedPost (g : Graph) (known : KnownRows) (p : Player) (e : Refusal) : Type 0 where
  pub journal : Journal
  pub lawful : IsLawful g journal
  pub before : IsBefore g known p journal
  pub refused : IsRefusedKnown g journal known p e

-- why a run has no solution: refused memory, or a known set that is no region, with the refusal of its post
abbrev pub IsSolveFault : Graph → KnownRows → SolveFault → Type 0
IsSolveFault g known fault.Memory = Unit {0}
IsSolveFault g known (fault.Known p e) = IsRefusedPost g known p e

-- the fault gives the reason to refuse the claim of these rows, by identifiers
abbrev pub Names : Graph → ClaimRows → Refusal → KnownFault → Type 0
Names g rows (refusal.Claim (Shape i)) (known_fault.Choice id) = option_map (λ r. id_of g r.0) (slice_get rows i) ≡ Some id
Names g rows (refusal.Claim (Cycle v)) (known_fault.Cycle id) = id ≡ id_of g v
Names g rows (refusal.Lost v) (known_fault.Lost id) = id ≡ id_of g v
Names g rows (refusal.Open v w) (known_fault.Open id to) = (id ≡ id_of g v) × (to ≡ id_of g w)
Names g rows _ _ = ⊥

-- a player's known set is no region, and this is the reason to refuse its post
abbrev pub IsRefusedSet : Graph → KnownRows → KnownFault → Type 0
IsRefusedSet g known f = (p : Player) × (e : Refusal) × IsSolveFault g known (fault.Known p e) × Names g (known_rows g known p) e f
