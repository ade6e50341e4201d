-- The meaning of a command line.
use Rattle.std.specs.Prelude.{ℕ, ◌≡◌, ◌≤◌, List, Option, Some, None, option_map, string_bytes}
use Rattle.pgboard.specs.declared.fault.AskedFault.{AskedFault}
use Rattle.pgboard.specs.declared.fault.AskedFault.TheVariants as fault
use Rattle.pgboard.specs.declared.arguments.Asked.{Asked}
use Rattle.pgboard.specs.declared.arguments.Asked.TheVariants.{Joined, Verify, Tidy, Solve, Trace, Help}

-- numbers are in their ranges: 1 to 64 workers, dominions of 0 to 8 vertices
abbrev pub IsInRange : Asked → Type 0
IsInRange Joined = Unit {0}
IsInRange (Verify game solution) = Unit {0}
IsInRange (Tidy game) = Unit {0}
IsInRange (Solve workers bound winners known game) = (1 ≤ workers) × (workers ≤ 64) × (bound ≤ 8)
IsInRange (Trace workers game) = (1 ≤ workers) × (workers ≤ 64)
IsInRange (Help text) = Unit {0}

-- the path of the game's file, if there is one
abbrev pub path_of : Asked → Option (List ℕ)
path_of Joined = None
path_of (Verify game solution) = Some (string_bytes game)
path_of (Tidy game) = option_map (λ path. string_bytes path) game
path_of (Solve workers bound winners known game) = option_map (λ path. string_bytes path) game
path_of (Trace workers game) = option_map (λ path. string_bytes path) game
path_of (Help text) = None

-- the path of a second file, of the solution or of what is known, if there is one
abbrev pub second_path_of : Asked → Option (List ℕ)
second_path_of (Verify game solution) = Some (string_bytes solution)
second_path_of (Solve workers bound winners known game) = option_map (λ path. string_bytes path) known
second_path_of _ = None

-- the words were refused with this text, or memory was refused
abbrev pub Says : List ℕ → AskedFault → Type 0
Says text (fault.Words words) = string_bytes words ≡ text
Says text fault.Memory = Unit {0}
