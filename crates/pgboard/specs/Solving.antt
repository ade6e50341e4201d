-- The output of solving a game.
use Rattle.std.specs.Prelude.{ℕ, ◌≡◌, Bool, true, false, List, length, Option, slice_get}
use Rattle.pg_game.specs.declared.player.Player.{Player}
use Rattle.pg_game.specs.Graph.{Graph}
use Rattle.pg_text.specs.Known.{KnownRows}
use Rattle.pg_text.specs.Solution.{SolutionRows, IsExactSolution}
use Rattle.pg_text.specs.Written.{written_solution}
use Rattle.pg_text.specs.Winners.{IsWinnersText}
use Rattle.pg_board.specs.Journal.{Journal, state_of, IsLawful}
use Rattle.pg_board.specs.Full.{IsFull}
use Rattle.pg_workers.specs.declared.report.ReportRow.{ReportRow}
use Rattle.pg_workers.specs.KnownRegions.{IsKnownRegion, KeepsKnown}
use Rattle.pg_workers.specs.Report.{IsInOrder, IsReport, AddsUp}
use Rattle.pg_board.specs.Work.{total_of}
use Rattle.pgboard.specs.KnownSource.{IsReadKnown}
use Rattle.pgboard.specs.Run.{IsReadGame}
use Rattle.pgboard.specs.Trace.{trace_text}

-- the winners alone, or the written text of a solution with choices exactly where the winner owns the vertex, which keeps what is
-- known: a known vertex has its winner, and its known choice where the winner owns it
abbrev pub IsSolveText : Bool → Graph → KnownRows → List ℕ → Type 0
IsSolveText true g known text = IsWinnersText g text
IsSolveText false g known text =
    (rows : SolutionRows) × IsExactSolution g rows × KeepsKnown g known (λ v. slice_get rows v) × (text ≡ written_solution g rows)

-- the sources had a game and what is known of it, each player's known set is a region of his, and the text is that of a solution of the
-- game which keeps what is known
pub record IsSolveOutput (game known : Option (List ℕ)) (winners : Bool) (text : List ℕ) : Type 0 where
  pub graph : Graph
  pub rows : KnownRows
  pub game_is : IsReadGame game graph
  pub known_is : IsReadKnown graph known rows
  pub regions : (p : Player) → IsKnownRegion graph rows p
  pub text_is : IsSolveText winners graph rows text

-- the text of a lawful journal that settles every vertex, and of a report with one row for each job: this many workers drew a
-- prefix of the jobs, and the rows say what they settled; nothing was known before
pub record IsTraceText (workers : ℕ) (g : Graph) (text : List ℕ) : Type 0 where
  pub journal : Journal
  pub report : List ReportRow
  pub lawful : IsLawful g journal
  pub full : IsFull g (state_of journal)
  pub order : IsInOrder (total_of 4 (length g)) report
  pub rows : IsReport workers report
  pub adds_up : AddsUp 0 journal report
  pub text_is : text ≡ trace_text g journal report
