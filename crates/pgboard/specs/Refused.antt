-- Why a game is not solved from what is known of it: the reason of the refused post, by identifiers.
use Rattle.std.specs.Prelude.{ℕ, ◌≢◌, ◌≤◌, List, length, Option, IfSome}
use Rattle.pg_game.specs.Graph.{Graph}
use Rattle.pg_text.specs.Known.{KnownRows, IsKnownTextOf, IsKnownFaultOf}
use Rattle.pg_text.specs.declared.fault.SolutionTextFault.TheVariants as solution_fault
use Rattle.pg_text.specs.Reading.{max_text}
use Rattle.pg_workers.specs.KnownRegions.{IsRefusedSet}
use Rattle.pgboard.specs.declared.fault.RunFault.{RunFault}
use Rattle.pgboard.specs.declared.fault.RunFault.TheVariants as fault
use Rattle.pgboard.specs.Run.{IsUnread}

-- why the game was not solved from what a source says of it
abbrev pub IsNotKnown : Graph → Option (List ℕ) → RunFault → Type 0
IsNotKnown g known (fault.Solution f) = IfSome known (λ text. (length text ≤ max_text) × IsKnownFaultOf g text f × (f ≢ solution_fault.Memory))
IsNotKnown g known (fault.Known f) = IfSome known (λ text. (length text ≤ max_text) × (rows : KnownRows) × IsKnownTextOf g text rows × IsRefusedSet g rows f)
IsNotKnown g known e = IsUnread known e
