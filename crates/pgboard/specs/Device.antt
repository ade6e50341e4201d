-- How sources and sinks count their failures.
use Rattle.std.specs.Prelude.{ℕ, ◌≡◌, ◌+◌, ◌-◌, ◌^◌, ◌<◌, ◌≤◌, ◌⊎◌, min, Result, MatchResult, List, ◌++◌, Option}
use Rattle.std.specs.Io.KnownBytes.{Appends}
use Rattle.pgboard.specs.declared.device.Std.{Std}

abbrev pub last_count : ℕ
last_count = 2 ^ 64 - 1

-- the count rises only with a failure, and stays at its last value
abbrev pub CountsFailure : {A E : Type 0} → ℕ → ℕ → Result A E → Type 0
CountsFailure old new r = MatchResult r (λ _. new ≡ old) (λ _. new ≡ min (old + 1) last_count)

-- there was a failure, or the count was at its last value
abbrev pub HasFailed : ℕ → ℕ → Type 0
HasFailed old new = (old < new) ⊎ (last_count ≤ old)

-- a prefix of the text went out
abbrev pub AppendsPrefix : Option (List ℕ) → Option (List ℕ) → List ℕ → Type 0
AppendsPrefix old new text = (prefix back : List ℕ) × (text ≡ prefix ++ back) × Appends old new prefix

-- a reader or a writer without counted failures and without an expected number of bytes
abbrev pub untouched : {T : Type 0} → T → Std T
untouched inner = record { inner = inner; failures = 0; expected = 0 }
