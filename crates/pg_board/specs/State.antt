-- The settled vertices of a board.
use Rattle.std.specs.Prelude.{ℕ, ◌≡◌, ◌<◌, ◌&&◌, Bool, true, false, nat_lt, length, Option, Some, None, filter}
use Rattle.pg_game.specs.declared.player.Player.{Player}
use Rattle.pg_game.specs.Player.{opponent}
use Rattle.pg_game.specs.Graph.{Graph}
use Rattle.pg_game.specs.VertexSet.{VertexSet, In, Within, all_vertices, union}
use Rattle.pg_game.specs.Kept.{Choices, KeptEdge}
use Rattle.pg_game.specs.Subgame.{IsSubgame}
use Rattle.pg_game.specs.Attractor.{Attractor}
use Rattle.pg_game.specs.Region.{IsRegion}
use Rattle.pg_text.specs.Known.{is_winner, choice_in_row}
use Rattle.pg_dominion.specs.Claim.{ClaimRows, named, choice_in, IsSound}

-- the player and the choice of each settled vertex
abbrev pub State : Type 0
State = ℕ → Option (Player × Option ℕ)

-- the vertices that are settled for the player
abbrev pub settled : State → Player → VertexSet
settled st p v = is_winner p (st v)

abbrev pub winner_in : Option (Player × Option ℕ) → Option Player
winner_in None = None
winner_in (Some r) = Some r.0

abbrev pub choices : State → Choices
choices st v = choice_in_row (st v)

abbrev pub is_unsettled : Option (Player × Option ℕ) → Bool
is_unsettled None = true
is_unsettled (Some r) = false

-- the vertices of the game that are not settled
abbrev pub unsettled : Graph → State → VertexSet
unsettled g st v = nat_lt v (length g) && is_unsettled (st v)

-- each player's vertices are a region that attracts no further vertex, and the rest of the game is a subgame
pub record IsLawfulState (g : Graph) (st : State) : Type 0 where
  pub regions : (p : Player) → IsRegion g p (settled st p) (choices st)
  pub attracted : (p : Player) (v : ℕ) → Attractor g p (all_vertices g) (settled st p) v → In (settled st p) v
  pub open_part : IsSubgame g (unsettled g st)

-- the rows of the claim whose vertices are not settled
abbrev pub rest_of : State → ClaimRows → ClaimRows
rest_of st rows = filter (λ r. is_unsettled (st r.0)) rows

-- a claim that may be posted
pub record IsGoodOn (g : Graph) (st : State) (p : Player) (rows : ClaimRows) : Type 0 where
  pub sound : IsSound g p rows
  pub not_lost : (v : ℕ) → In (named rows) v → settled st (opponent p) v ≡ false
  pub not_stale : 0 < length (rest_of st rows)
  pub closed : (v w : ℕ) → KeptEdge g p (named (rest_of st rows)) (choice_in rows) v w → In (union (named (rest_of st rows)) (settled st p)) w

-- a claim of a set that the player wins, whatever else is settled later (Jurdzinski, Paterson, Zwick 2008, relative to the settled part)
pub record IsDominion (g : Graph) (st : State) (p : Player) (rows : ClaimRows) : Type 0 where
  pub sound : IsSound g p rows
  pub vertices : Within (named rows) (unsettled g st)
  pub closed : (v w : ℕ) → KeptEdge g p (named rows) (choice_in rows) v w → In (union (named rows) (settled st p)) w
