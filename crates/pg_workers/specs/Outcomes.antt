-- The outcome of a run.
use Rattle.std.specs.Prelude.{ℕ, slice_get}
use Rattle.pg_text.specs.Known.{KnownRows}
use Rattle.pg_game.specs.declared.player.Player.{Player}
use Rattle.pg_game.specs.Graph.{Graph}
use Rattle.pg_text.specs.Solution.{IsExactSolution}
use Rattle.pg_board.specs.Journal.{state_of, IsLawful}
use Rattle.pg_board.specs.Full.{IsFull, AreStateRows}
use Rattle.pg_workers.specs.declared.solve.Outcome.{Outcome}
use Rattle.pg_workers.specs.KnownRegions.{IsKnownRegion, KeepsKnown, IsKnownSize}
use Rattle.pg_workers.specs.Report.{IsInOrder, IsReport, AddsUp}

-- each known set is a region, the entries are a lawful journal that settles every vertex, the solution is its state and exact,
-- what is known keeps its winners, and the choices of those who own the vertices, each job has its row, and the rows say which
-- worker drew it, and what the workers settled beside what the known sets attract
pub record IsOutcome (g : Graph) (known : KnownRows) (total workers : ℕ) (o : Outcome) : Type 0 where
  pub regions : (p : Player) → IsKnownRegion g known p
  pub lawful : IsLawful g o.entries.items
  pub full : IsFull g (state_of o.entries.items)
  pub state : AreStateRows g (state_of o.entries.items) o.solution.rows
  pub exact : IsExactSolution g o.solution.rows
  pub kept : KeepsKnown g known (λ v. slice_get o.solution.rows v)
  pub report : IsInOrder total o.report.items
  pub rows : IsReport workers o.report.items
  pub adds_up : (n : ℕ) × IsKnownSize g known n × AddsUp n o.entries.items o.report.items
