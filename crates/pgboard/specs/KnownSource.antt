-- What a run knows of the text of what is known, if there is one.
use Rattle.std.proofs.Common.{inl, inr}
use Rattle.std.specs.Prelude.{ℕ, ◌≤◌, ◌⊎◌, List, [], length, Option, Some, None, IfSome}
use Rattle.std.specs.Borrow.{MutBor}
use Rattle.pg_game.specs.Graph.{Graph}
use Rattle.pg_text.specs.Known.{KnownRows, IsKnownTextOf}
use Rattle.pg_text.specs.Reading.{max_text}

-- the bytes that a source has left, if they are known; without a source there are none
abbrev pub left_in : {S : Type 0} → (S → Option (List ℕ)) → Option (MutBor S) → Option (List ℕ)
left_in left None = Some []
left_in left (Some source) = left source.now

-- if there is a source, the relation holds between it before and after
abbrev pub IfGiven : {S : Type 0} → (S → S → Type 0) → Option (MutBor S) → Unit {0} ⊎ ((MutBor S × Unit {0}) ⊎ ⊥) → Type 0
IfGiven R None after = Unit {0}
IfGiven R (Some source) (inr (inl after)) = R source.now after.0.now
IfGiven R (Some source) _ = ⊥

-- there is a source, and the relation holds
abbrev pub OnGiven : {S : Type 0} → (S → S → Type 0) → Option (MutBor S) → Unit {0} ⊎ ((MutBor S × Unit {0}) ⊎ ⊥) → Type 0
OnGiven R None after = ⊥
OnGiven R (Some source) (inr (inl after)) = R source.now after.0.now
OnGiven R (Some source) _ = ⊥

-- the text, if it is known, is within the limit and says that this is known of the game
abbrev pub IsReadKnown : Graph → Option (List ℕ) → KnownRows → Type 0
IsReadKnown g known rows = IfSome known (λ text. (length text ≤ max_text) × IsKnownTextOf g text rows)
