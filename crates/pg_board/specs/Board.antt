-- What every board is, and what the calls return that change nothing.
use Rattle.std.specs.Prelude.{ℕ, ◌≡◌, ◌≤◌, ◌↔◌, length, Option, IsSome, IfSome}
use Rattle.pg_game.specs.declared.player.Player.{Player}
use Rattle.pg_game.specs.Graph.{IsGame}
use Rattle.pg_game.specs.Limits.{IsWithinLimits}
use Rattle.pg_game.specs.VertexSet.{members}
use Rattle.pg_text.specs.Solution.{IsExactSolution}
use Rattle.pg_text.specs.declared.solution_text.Solution.{Solution}
use Rattle.pg_dominion.specs.Claim.{ClaimRows, IsGoodIn}
use Rattle.pg_finders.specs.Part.{IsPart}
use Rattle.pg_finders.specs.declared.inside.Copied.{Copied}
use Rattle.pg_board.specs.BoardRecord.{BoardRecord}
use Rattle.pg_board.specs.State.{unsettled}
use Rattle.pg_board.specs.Journal.{state_of, IsLawful, IsDominionAfter, number_settled}
use Rattle.pg_board.specs.Full.{IsFull, AreStateRows}

-- a board is a game within the limits, and its journal is lawful
pub record IsLawfulBoard (b : BoardRecord) : Type 0 where
  pub game : IsGame b.graph
  pub limits : IsWithinLimits b.graph
  pub lawful : IsLawful b.graph b.journal
  pub within : number_settled b.journal ≤ length b.graph

-- the unsettled part of the board, which is a subgame, and its numbers; a claim that is good in the part is a dominion after so many entries
pub record IsCopyOf (b : BoardRecord) (c : Copied) : Type 0 where
  pub graph : c.inside.graph ≡ b.graph
  pub mask : (v : ℕ) → members c.inside.mask v ≡ unsettled b.graph (state_of b.journal) v
  pub part : IsPart c.inside
  pub entries : c.at ≡ length b.journal
  pub number : c.settled ≡ number_settled b.journal
  pub dominions : (p : Player) (rows : ClaimRows) → IsGoodIn b.graph (members c.inside.mask) p rows → IsDominionAfter b.graph b.journal c.at p rows

-- exactly of a full board, the state of each vertex, which is a solution
pub record IsSolutionOf (b : BoardRecord) (found : Option Solution) : Type 0 where
  pub full : IsSome found ↔ IsFull b.graph (state_of b.journal)
  pub solution : IfSome found (λ s. IsExactSolution b.graph s.rows)
  pub state : IfSome found (λ s. AreStateRows b.graph (state_of b.journal) s.rows)
