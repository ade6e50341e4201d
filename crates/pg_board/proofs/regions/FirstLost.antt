-- The first row that is lost names the least vertex that is.
use Rattle.pg_board.proofs.Common.{rules, ◌≡◌, ℕ, ◌<◌, ◌≤◌, true, false, length, cases_lt, IsStrictlyIncreasing, Player, opponent, NoneHas, ClaimRows, State}
use Rattle.pg_board.proofs.Common.{settled, IsLost, vertices, row_at}
use Rattle.pg_game.specs.Least.{IsLeast}
use Rattle.pg_dominion.proofs.RowsByPlace.{named_at, place_at, rises}
use Rattle.std.proofs.Common.{eq-or-lt_of_le}

-- the first so many rows are not settled for the player
abbrev pub NoneBefore : State → Player → ClaimRows → ℕ → Type 0
NoneBefore st q rows i = (k : ℕ) → k < i → settled st q (row_at rows k).0 ≡ false

module _ (st : State) (p : Player) (rows : ClaimRows) where
  pub none_lost : (i : ℕ) → length rows ≤ i → NoneBefore st (opponent p) rows i → NoneHas (IsLost st p rows)
  none_lost i l before u h = search (rules, place_at, h.0, h.1)

  pub least_lost : (i : ℕ) → i < length rows → IsStrictlyIncreasing (vertices rows) → NoneBefore st (opponent p) rows i
      → settled st (opponent p) (row_at rows i).0 ≡ true → IsLeast (IsLost st p rows) (row_at rows i).0
  least_lost i l rising before here = search (rules, named_at, place_at, cases_lt, eq-or-lt_of_le, rises)
