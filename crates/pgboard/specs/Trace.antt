-- The text of a journal and a report.
use Rattle.std.specs.Prelude.{ℕ, ◌+◌, List, [], ◌∷◌, ◌++◌, length, flat_map, sum_by, codes, Option, Some, None, Bool, true, false}
use Rattle.std.specs.List.{join_with_byte}
use Rattle.pg_game.specs.Player.{digit_of}
use Rattle.pg_game.specs.Graph.{Graph, id_of}
use Rattle.pg_text.specs.Written.{numeral}
use Rattle.pg_board.specs.declared.journal.Entry.{Entry}
use Rattle.pg_board.specs.Journal.{Journal, number_settled}
use Rattle.pg_workers.specs.declared.report.ReportRow.{ReportRow}

-- words between single spaces, and a line feed
abbrev pub trace_line : List (List ℕ) → List ℕ
trace_line words = join_with_byte 32 words ++ codes "\n"

abbrev pub choice_words : Graph → Option ℕ → List (List ℕ)
choice_words g None = []
choice_words g (Some w) = numeral (id_of g w) ∷ []

abbrev pub row_line : Graph → ℕ × Option ℕ → List ℕ
row_line g r = join_with_byte 32 (numeral (id_of g r.0) ∷ choice_words g r.1) ++ codes ";\n"

abbrev pub entry_text : Graph → ℕ → Entry → List ℕ
entry_text g k e =
    trace_line (codes "entry" ∷ numeral k ∷ numeral e.worker ∷ numeral (digit_of e.player) ∷ numeral e.claimed ∷ numeral (length e.rows) ∷ [])
    ++ flat_map (row_line g) e.rows

abbrev pub entries_text : Graph → ℕ → Journal → List ℕ
entries_text g k [] = []
entries_text g k (e ∷ es) = entry_text g k e ++ entries_text g (k + 1) es

abbrev pub worker_word : Option ℕ → List ℕ
worker_word None = codes "-"
worker_word (Some w) = numeral w

abbrev pub flag_word : Bool → List ℕ
flag_word false = codes "0"
flag_word true = codes "1"

abbrev pub job_line : ReportRow → List ℕ
job_line r =
    trace_line (codes "job" ∷ numeral r.job ∷ worker_word r.worker ∷ numeral r.posted ∷ numeral r.settled ∷ numeral r.stale ∷ numeral r.refused ∷ flag_word
    r.gave_up ∷ flag_word r.memory ∷ [])

abbrev pub total_line : List ReportRow → List ℕ
total_line report =
    trace_line (codes "total" ∷ numeral (sum_by (λ r. r.posted) report) ∷ numeral (sum_by (λ r. r.settled) report) ∷ numeral
    (sum_by (λ r. r.stale) report) ∷ numeral (sum_by (λ r. r.refused) report) ∷ [])

abbrev pub trace_text : Graph → Journal → List ReportRow → List ℕ
trace_text g journal report =
    trace_line (codes "journal" ∷ numeral (length journal) ∷ numeral (number_settled journal) ∷ [])
    ++ (entries_text g 0 journal
    ++ (trace_line (codes "report" ∷ numeral (length report) ∷ [])
    ++ (flat_map job_line report ++ total_line report)))
