-- What a run knows of the texts of its sources, and why it has no result.
use Rattle.std.specs.Prelude.{ℕ, ◌≡◌, ◌≢◌, ◌<◌, ◌≤◌, ◌⊎◌, List, length, Option, Result, IfSome, IfOk, IfErr, IsErrOf}
use Rattle.std.specs.Io.KnownBytes.{Appends, Keeps}
use Rattle.pg_game.specs.Graph.{Graph}
use Rattle.pg_text.specs.Reading.{max_text, IsTextOf, IsFaultOf, IsSolutionFaultOf}
use Rattle.pg_text.specs.declared.fault.TextFault.TheVariants as game_fault
use Rattle.pg_text.specs.declared.fault.SolutionTextFault.TheVariants as solution_fault
use Rattle.pgboard.specs.Device.{HasFailed, AppendsPrefix}
use Rattle.pgboard.specs.declared.fault.RunFault.{RunFault}
use Rattle.pgboard.specs.declared.fault.RunFault.TheVariants as fault

-- the text that a source had, if it is known, is within the limit and one of the game
abbrev pub IsReadGame : Option (List ℕ) → Graph → Type 0
IsReadGame known g = IfSome known (λ text. (length text ≤ max_text) × IsTextOf text g)

-- why no text was read from a source
abbrev pub IsUnread : Option (List ℕ) → RunFault → Type 0
IsUnread known fault.Read = Unit {0}
IsUnread known fault.TooLong = IfSome known (λ text. max_text < length text)
IsUnread known fault.Memory = Unit {0}
IsUnread known _ = ⊥

-- why no game was read from a source
abbrev pub IsNoGame : Option (List ℕ) → RunFault → Type 0
IsNoGame known (fault.Game f) = IfSome known (λ text. (length text ≤ max_text) × IsFaultOf text f × (f ≢ game_fault.Memory))
IsNoGame known e = IsUnread known e

-- why no solution of the game was read from a source
abbrev pub IsNoSolution : Graph → Option (List ℕ) → RunFault → Type 0
IsNoSolution g known (fault.Solution f) = IfSome known (λ text. (length text ≤ max_text) × IsSolutionFaultOf g text f × (f ≢ solution_fault.Memory))
IsNoSolution g known e = IsUnread known e

-- the game's text was refused
abbrev pub IsGameFault : RunFault → Type 0
IsGameFault (fault.Game f) = Unit {0}
IsGameFault _ = ⊥

-- a run reads one source, and its count of failures goes from old to new: a read failed if the fault is `Read`, and else none did
pub record Reads {A : Type 0} (result : Result A RunFault) (old new : ℕ) : Type 0 where
  pub no_failure : (IsErrOf result fault.Read → ⊥) → new ≡ old
  pub failed : IsErrOf result fault.Read → HasFailed old new

-- a run reads a game from a source and then a second source: it did not read the second, or it read the game without a failure.
-- The three relations are for the second source: it was not read, no read of it failed, a read of it failed.
pub record ReadsInTurn {A : Type 0} (result : Result A RunFault) (game : Option (List ℕ)) (old new : ℕ) (Unread Unfailed Failed : Type 0) : Type 0 where
  pub no_game_failure : (IsErrOf result fault.Read → ⊥) → new ≡ old
  pub no_second_failure : (IsErrOf result fault.Read → ⊥) → Unfailed
  pub order : Unread ⊎ ((g : Graph) × IsReadGame game g × (new ≡ old))
  pub unread : IfErr result (λ e. IsGameFault e → Unread)
  pub failed : IsErrOf result fault.Read → (HasFailed old new × Unread) ⊎ ((g : Graph) × IsReadGame game g × Failed)

-- a prefix of an output went out
pub record IsCut {A : Type 0} (IsOutput : A → List ℕ → Type 0) (old new : Option (List ℕ)) : Type 0 where
  pub answer : A
  pub text : List ℕ
  pub output : IsOutput answer text
  pub prefix : AppendsPrefix old new text

-- a run writes an output: all of it; or, if a write failed, a prefix of one; or, for another fault, nothing
pub record Writes {A : Type 0} (IsOutput : A → List ℕ → Type 0) (result : Result A RunFault) (old new : Option (List ℕ)) (failures later : ℕ) : Type 0 where
  pub written : IfOk result (λ a. (text : List ℕ) × IsOutput a text × Appends old new text)
  pub cut : IsErrOf result fault.Write → IsCut IsOutput old new
  pub nothing : IfErr result (λ e. e ≢ fault.Write → Keeps old new)
  pub no_failure : (IsErrOf result fault.Write → ⊥) → later ≡ failures
  pub failed : IsErrOf result fault.Write → HasFailed failures later
