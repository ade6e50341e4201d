-- A search for a walk back over a few rows.
use Rattle.std.specs.Prelude.{ℕ, ◌≡◌, ◌≤◌, ◌<◌, ◌⊎◌, false, Bool, List, take, Contains}
use Rattle.pg_game.specs.declared.player.Player.{Player}
use Rattle.pg_game.specs.Graph.{Graph, priority_of}
use Rattle.pg_game.specs.VertexSet.{In, members}
use Rattle.pg_game.specs.Kept.{kept, KeptEdge}
use Rattle.pg_game.specs.Walk.{Walk}
use Rattle.pg_dominion.specs.Claim.{ClaimRows, row_at, named, choice_in}

-- a kept edge leads from one row's vertex to another's
abbrev pub RowLeadsTo : Graph → Player → ClaimRows → ℕ → ℕ → Type 0
RowLeadsTo g p rows from to = Contains (kept g p (choice_in rows) (row_at rows from).0) (row_at rows to).0

-- a kept edge between vertices of the first rows, to one of at most this priority
abbrev pub Under : Graph → Player → ClaimRows → ℕ → ℕ → ℕ → ℕ → Type 0
Under g p rows done top v w = KeptEdge g p (named (take done rows)) (choice_in rows) v w × In (named (take done rows)) w × (priority_of g w ≤ top)

-- a walk over such edges, from the row's vertex back to it, where the priority is its own
abbrev pub WalksBack : Graph → Player → ClaimRows → ℕ → ℕ → Type 0
WalksBack g p rows done start =
    (ws : List ℕ) × Walk (Under g p rows done (priority_of g (row_at rows start).0)) (row_at rows start).0 ws (row_at rows start).0

-- the row is the start, or was reached before
abbrev pub IsFrom : ℕ → List Bool → ℕ → Type 0
IsFrom start left from = (from ≡ start) ⊎ (members left from ≡ false)

-- some such row leads to this one
abbrev pub IsReachedNext : Graph → Player → ClaimRows → ℕ → ℕ → List Bool → ℕ → Type 0
IsReachedNext g p rows done start left to = (from : ℕ) × (from < done) × IsFrom start left from × RowLeadsTo g p rows from to

-- the row was not reached before, is low enough, and such a row leads to it
abbrev pub IsReached : Graph → Player → ClaimRows → ℕ → ℕ → List Bool → ℕ → Type 0
IsReached g p rows done start left to =
    (to < done) × In (members left) to × (priority_of g (row_at rows to).0 ≤ priority_of g (row_at rows start).0) × IsReachedNext g p rows done start left to
