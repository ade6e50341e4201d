-- The number of each answer, and its report: a table with one line for each fault.
use Rattle.std.specs.Prelude.{ℕ, ◌≡◌, ◌<◌, Result, Ok, Err}
use Rattle.pg_game.specs.declared.specification.GameFault.{GameFault}
use Rattle.pg_game.specs.declared.specification.GameFault.TheVariants as game
use Rattle.pg_dominion.specs.declared.solution.SolutionFault.{SolutionFault}
use Rattle.pg_dominion.specs.declared.solution.SolutionFault.TheVariants as verdict
use Rattle.pg_text.specs.declared.fault.TextFault.{TextFault}
use Rattle.pg_text.specs.declared.fault.TextFault.TheVariants as text
use Rattle.pg_text.specs.declared.fault.SolutionTextFault.{SolutionTextFault}
use Rattle.pg_text.specs.declared.fault.SolutionTextFault.TheVariants as solution
use Rattle.pgboard_c.specs.declared.fault.ArrayName.{ArrayName}
use Rattle.pgboard_c.specs.declared.fault.ArrayName.TheVariants as array_name
use Rattle.pgboard_c.specs.declared.fault.Structure.{Structure}
use Rattle.pgboard_c.specs.declared.fault.Structure.TheVariants as structure
use Rattle.pg_workers.specs.declared.known.KnownFault.{KnownFault}
use Rattle.pg_workers.specs.declared.known.KnownFault.TheVariants as known
use Rattle.pgboard_c.specs.declared.fault.BoardFault.{BoardFault}
use Rattle.pgboard_c.specs.declared.fault.BoardFault.TheVariants as board
use Rattle.pgboard_c.specs.declared.fault.PostFault.{PostFault}
use Rattle.pgboard_c.specs.declared.fault.PostFault.TheVariants as post
use Rattle.pgboard_c.specs.declared.fault.Fault.{Fault}
use Rattle.pgboard_c.specs.declared.fault.Fault.TheVariants as fault
use Rattle.pgboard_c.specs.declared.fault.Answer.{Answer}
use Rattle.pgboard_c.specs.declared.fault.Report.{Report}

-- version 0.1.0, as major * 10000 + minor * 100 + patch
abbrev pub version : ℕ
version = 100

abbrev pub array_number : ArrayName → ℕ
array_number array_name.Priorities = 1
array_number array_name.Starts = 2
array_number array_name.Targets = 3
array_number array_name.Winners = 4
array_number array_name.Choices = 5

abbrev pub structure_number : Structure → ℕ
structure_number structure.Game = 1
structure_number structure.Solution = 2
structure_number structure.Results = 3
structure_number structure.Claim = 4

-- the bytes of a struct
abbrev pub structure_size : Structure → ℕ
structure_size structure.Game = 72
structure_size structure.Solution = 40
structure_size structure.Results = 40
structure_size structure.Claim = 48

abbrev pub answer : ℕ → ℕ → ℕ → Answer
answer number at to = record { number = number; at = at; to = to }

abbrev pub game_answer : GameFault → Answer
game_answer game.Memory = answer 1 0 0
game_answer game.NoVertex = answer 10 0 0
game_answer game.TooManyVertices = answer 11 0 0
game_answer (game.Twice id) = answer 12 id 0
game_answer (game.NoSuccessor id) = answer 13 id 0
game_answer game.TooManyEdges = answer 14 0 0
game_answer (game.Unknown id to) = answer 15 id to

abbrev pub verdict_answer : SolutionFault → Answer
verdict_answer verdict.Memory = answer 1 0 0
verdict_answer (verdict.NoChoice id) = answer 20 id 0
verdict_answer (verdict.BadChoice id) = answer 21 id 0
verdict_answer (verdict.Leaves id to) = answer 22 id to
verdict_answer (verdict.Cycle id) = answer 23 id 0

abbrev pub known_answer : KnownFault → Answer
known_answer (known.Choice v) = answer 60 v 0
known_answer (known.Cycle v) = answer 61 v 0
known_answer (known.Lost v) = answer 62 v 0
known_answer (known.Open v w) = answer 63 v w

abbrev pub text_answer : TextFault → Answer
text_answer text.Memory = answer 1 0 0
text_answer (text.Lexical at) = answer 31 at 0
text_answer (text.Syntax at) = answer 32 at 0
text_answer (text.Number at) = answer 33 at 0
text_answer (text.Owner at) = answer 34 at 0
text_answer (text.Game f) = game_answer f

abbrev pub solution_answer : SolutionTextFault → Answer
solution_answer solution.Memory = answer 1 0 0
solution_answer (solution.Lexical at) = answer 41 at 0
solution_answer (solution.Syntax at) = answer 42 at 0
solution_answer (solution.Number at) = answer 43 at 0
solution_answer (solution.Winner at) = answer 44 at 0
solution_answer (solution.Stranger id) = answer 45 id 0
solution_answer (solution.Twice id) = answer 46 id 0
solution_answer (solution.Missing id) = answer 47 id 0

abbrev pub board_answer : BoardFault → Answer
board_answer board.Open = answer 70 0 0
board_answer board.Closed = answer 71 0 0
board_answer (board.Entry count) = answer 72 count 0
board_answer (board.Unsettled count) = answer 73 count 0
board_answer (board.Vertex count) = answer 74 count 0

abbrev pub post_answer : PostFault → Answer
post_answer (post.Player player) = answer 80 player 0
post_answer (post.Lengths m n) = answer 81 m n
post_answer (post.Shape row) = answer 82 row 0
post_answer (post.Cycle v) = answer 83 v 0
post_answer (post.Lost v) = answer 84 v 0
post_answer post.Stale = answer 85 0 0
post_answer (post.Open v w) = answer 86 v w

-- the number of the answer, and its two places: vertices, a row, a place in a text, a size or count, or an array or a struct by its number
abbrev pub answer_of : Fault → Answer
answer_of fault.Memory = answer 1 0 0
answer_of (fault.Lengths array) = answer 2 (array_number array) 0
answer_of (fault.Row v) = answer 3 v 0
answer_of (fault.Owner v) = answer 4 v 0
answer_of (fault.Priority v) = answer 5 v 0
answer_of (fault.Results array) = answer 6 (array_number array) 0
answer_of (fault.Winner v) = answer 7 v 0
answer_of (fault.Solution array) = answer 8 (array_number array) 0
answer_of (fault.Size it) = answer 9 (structure_number it) (structure_size it)
answer_of fault.GameTooLong = answer 30 0 0
answer_of fault.SolutionTooLong = answer 40 0 0
answer_of (fault.Capacity size) = answer 50 size 0
answer_of fault.GaveUp = answer 90 0 0
answer_of (fault.Game f) = game_answer f
answer_of (fault.Verdict f) = verdict_answer f
answer_of (fault.Known f) = known_answer f
answer_of (fault.GameText f) = text_answer f
answer_of (fault.SolutionText f) = solution_answer f
answer_of (fault.Board f) = board_answer f
answer_of (fault.Post f) = post_answer f

-- the answer is the fault's number, and the report has its places
abbrev pub IsReported : Fault → ℕ → Report → Type 0
IsReported fault number report = answer_of fault ≡ answer number report.at report.to

-- the report is blank
abbrev pub IsBlank : Report → Type 0
IsBlank report = (report.at ≡ 0) × (report.to ≡ 0)

-- 0 and a blank report, or the fault's number and places
abbrev pub IsAnswerTo : Result (Unit {0}) Fault → ℕ → Report → Type 0
IsAnswerTo (Ok _) answer report = (answer ≡ 0) × IsBlank report
IsAnswerTo (Err e) answer report = (0 < answer) × IsReported e answer report

-- the call comes to a result with this outcome, and these are its number, which is 0 exactly where there is no fault, and its report
abbrev pub Returns : (Result (Unit {0}) Fault → Type 0) → ℕ → Report → Type 0
Returns Outcome answer report = (result : Result (Unit {0}) Fault) × Outcome result × IsAnswerTo result answer report
