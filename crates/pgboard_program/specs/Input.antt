-- Where the program's bytes come from.
use Rattle.std.specs.Prelude.{Option, Some, None}
use Rattle.pgboard_program.specs.declared.Input.{Input}
use Rattle.pgboard_program.specs.declared.Input.TheVariants as input

-- the input is a file where a path was given, and else standard input
abbrev pub IsInputOf : {P : Type 0} → Option P → Input → Type 0
IsInputOf (Some path) (input.File file) = Unit {0}
IsInputOf None (input.Standard stdin) = Unit {0}
IsInputOf _ _ = ⊥
