-- What is run for what was asked for: what it reads, what it writes and ends with, and why it fails.
use Rattle.std.specs.Prelude.{ℕ, ◌≡◌, ◌≤◌, ◌⊎◌, List, [], length, Option, Some, None, Result, IfSome, string_bytes}
use Rattle.pg_game.specs.Graph.{Graph}
use Rattle.pg_text.specs.Written.{written_game}
use Rattle.pg_text.specs.Reading.{max_text}
use Rattle.pgboard.specs.declared.arguments.Asked.{Asked}
use Rattle.pgboard.specs.declared.arguments.Asked.TheVariants.{Joined, Verify, Tidy, Solve, Trace, Help}
use Rattle.pgboard.specs.declared.fault.RunFault.{RunFault}
use Rattle.pgboard.specs.declared.fault.RunFault.TheVariants as fault
use Rattle.pgboard.specs.declared.verify.Verdict.{Verdict}
use Rattle.pgboard.specs.Joined.{game_part, solution_part, verdict_line, IsJudged, JudgingFailed}
use Rattle.pgboard.specs.Refused.{IsNotKnown}
use Rattle.pgboard.specs.Run.{IsReadGame, IsNoGame, IsNoSolution, Reads, ReadsInTurn}
use Rattle.pgboard.specs.Solving.{IsSolveOutput, IsTraceText}
use Rattle.pgboard.specs.Status.{verdict_status}

-- what a second source has is known where its path was given, and else nothing
abbrev pub known_text : {P : Type 0} → Option P → Option (List ℕ) → Option (List ℕ)
known_text None second = Some []
known_text (Some path) second = second

-- a run reads its first source, and then the second where the path of that was given: else that is not read
abbrev pub ReadsGiven : {A P : Type 0} → Option P → Result A RunFault → Option (List ℕ) → ℕ → ℕ → Type 0 → Type 0 → Type 0 → Type 0
ReadsGiven None result first old new Unread Unfailed Failed = Reads result old new × Unread
ReadsGiven (Some path) result first old new Unread Unfailed Failed = ReadsInTurn result first old new Unread Unfailed Failed

-- what is read for what was asked for. What is said of the sources is: that the first was not read; and of the second that it was
-- not read, that no read of it failed, and that one did
abbrev pub ReadsFor : {A : Type 0} → Asked → Result A RunFault → Option (List ℕ) → ℕ → ℕ → Type 0 → Type 0 → Type 0 → Type 0 → Type 0
ReadsFor Joined result first old new FirstUnread Unread Unfailed Failed = Reads result old new × Unread
ReadsFor (Verify game solution) result first old new FirstUnread Unread Unfailed Failed = ReadsInTurn result first old new Unread Unfailed Failed
ReadsFor (Tidy game) result first old new FirstUnread Unread Unfailed Failed = Reads result old new × Unread
ReadsFor (Solve workers bound winners known game) result first old new FirstUnread Unread Unfailed Failed =
    ReadsGiven known result first old new Unread Unfailed Failed
ReadsFor (Trace workers game) result first old new FirstUnread Unread Unfailed Failed = Reads result old new × Unread
ReadsFor (Help text) result first old new FirstUnread Unread Unfailed Failed = FirstUnread × Unread

-- where the first source has these bytes and the second those, this is written for what was asked for, and the status is this
abbrev pub IsOutputFor : Asked → Option (List ℕ) → Option (List ℕ) → ℕ → List ℕ → Type 0
IsOutputFor Joined first second status line =
    (verdict : Verdict) × (status ≡ verdict_status verdict) × (line ≡ verdict_line verdict)
    × IfSome first (λ text. (length text ≤ max_text) × IsJudged (game_part text) (solution_part text) verdict)
IsOutputFor (Verify game solution) first second status line =
    (verdict : Verdict) × (status ≡ verdict_status verdict) × (line ≡ verdict_line verdict)
    × IfSome first (λ g. IfSome second (λ s. (length g ≤ max_text) × (length s ≤ max_text) × IsJudged g s verdict))
IsOutputFor (Tidy game) first second status text = (status ≡ 0) × (g : Graph) × IsReadGame first g × (text ≡ written_game g)
IsOutputFor (Solve workers bound winners known game) first second status text =
    (status ≡ 0) × IsSolveOutput first (known_text known second) winners text
IsOutputFor (Trace workers game) first second status text = (status ≡ 0) × (g : Graph) × IsReadGame first g × IsTraceText workers g text
IsOutputFor (Help help) first second status text = (status ≡ 0) × (text ≡ string_bytes help)

-- why a game is not solved from what is known of it, where the path of that was given
abbrev pub SolvingFailed : {P : Type 0} → Option P → Option (List ℕ) → Option (List ℕ) → RunFault → Type 0
SolvingFailed None first second e = (e ≡ fault.Write) ⊎ IsNoGame first e
SolvingFailed (Some path) first second e = (e ≡ fault.Write) ⊎ (IsNoGame first e ⊎ ((g : Graph) × IsReadGame first g × IsNotKnown g second e))

-- why what was asked for fails
abbrev pub FailsFor : Asked → Option (List ℕ) → Option (List ℕ) → RunFault → Type 0
FailsFor Joined first second e = IfSome first (λ text. JudgingFailed (game_part text) (solution_part text) (length text) e)
FailsFor (Verify game solution) first second e =
    (e ≡ fault.Write) ⊎ (IsNoGame first e ⊎ ((g : Graph) × IsReadGame first g × IsNoSolution g second e))
FailsFor (Tidy game) first second e = (e ≡ fault.Write) ⊎ IsNoGame first e
FailsFor (Solve workers bound winners known game) first second e = SolvingFailed known first second e
FailsFor (Trace workers game) first second e = (e ≡ fault.Write) ⊎ IsNoGame first e
FailsFor (Help text) first second e = e ≡ fault.Write
