-- What the reader of command lines reads by, and a text to print (private).
use Rattle.std.specs.Prelude.{◌≡◌, false}
use Rattle.clap.specs.Words.{Shape, shape_of}
use Rattle.clap.specs.declared.builder.command.Command.{Command}
use Rattle.clap.specs.declared.builder.command.Command.TheViews.{out-Command}
use Rattle.pgboard.specs.declared.arguments.Asked.{Asked}
use Rattle.pgboard.specs.declared.arguments.Asked.TheVariants.{Help}

-- the command is read by this
abbrev pub IsCommand : Shape → Command → Type 0
IsCommand shape command = (shape_of command ≡ shape) × ((out-Command command).has_globals ≡ false)

-- a text to print
abbrev pub IsHelp : Asked → Type 0
IsHelp (Help text) = Unit {0}
IsHelp _ = ⊥
