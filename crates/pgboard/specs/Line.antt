-- The command line, as the kit's reader of command lines takes it, and what an accepted one asks for.
use Rattle.std.specs.Prelude.{ℕ, pos, ◌≡◌, ◌⊎◌, Bool, true, false, List, [], ◌∷◌, Option, Some, is_some, codes, option_map, string_bytes}
use Rattle.std.specs.Str.Parse.{IsNumeral, digits_value, without_leading_plus}
use Rattle.clap.specs.Kinds.{IsAmong}
use Rattle.clap.specs.Words.{App, Row, Rule, Shape, Text, all_of, fault_of, first_of, new_rule, one_of, subcommand_of}
use Rattle.clap.specs.Simple.{new_shape}
use Rattle.clap.specs.declared.builder.action.ArgAction.TheVariants.{SetTrue}
use Rattle.clap.specs.declared.builder.value_parser.ValueParser.TheVariants.{Signed}
use Rattle.clap.specs.declared.error.kind.ErrorKind.TheVariants.{DisplayHelp, DisplayVersion}
use Rattle.pgboard.specs.declared.arguments.Asked.{Asked}
use Rattle.pgboard.specs.declared.arguments.Asked.TheVariants.{Joined, Verify, Tidy, Solve, Trace, Help}

-- an option with a number, which is 4 where it is absent
abbrev pub number_rule : Text → ℕ → ℕ → Rule
number_rule name least most =
    record (new_rule name) { long = Some name; value_names = 1; defaults = codes "4" ∷ []; parser = Some (Signed (pos least) (pos most)) }

abbrev pub workers_rule : Rule
workers_rule = number_rule (codes "workers") 1 64

abbrev pub bound_rule : Rule
bound_rule = number_rule (codes "bound") 0 8

abbrev pub winners_rule : Rule
winners_rule = record (new_rule (codes "winners")) { long = Some (codes "winners"); action = Some SetTrue }

abbrev pub known_rule : Rule
known_rule = record (new_rule (codes "known")) { long = Some (codes "known"); value_names = 1 }

-- a path that may be left out, and one that may not
abbrev pub path_rule : Text → Bool → Rule
path_rule name required = record (new_rule name) { required = required }

abbrev pub command_of : Text → List Rule → Shape
command_of name rules = record (new_shape name) { rules = rules }

abbrev pub solve_command : Shape
solve_command = command_of (codes "solve") (workers_rule ∷ bound_rule ∷ winners_rule ∷ known_rule ∷ path_rule (codes "GAME") false ∷ [])

abbrev pub trace_command : Shape
trace_command = command_of (codes "trace") (workers_rule ∷ path_rule (codes "GAME") false ∷ [])

abbrev pub verify_command : Shape
verify_command = command_of (codes "verify") (path_rule (codes "GAME") true ∷ path_rule (codes "SOLUTION") true ∷ [])

abbrev pub tidy_command : Shape
tidy_command = command_of (codes "tidy") (path_rule (codes "GAME") false ∷ [])

-- the words after the program's name are read by this
abbrev pub program : App
program = record {
  top = record (command_of (codes "pgboard") []) { is_leaf = false; no_binary_name = true; has_version = true };
  subs = solve_command ∷ trace_command ∷ verify_command ∷ tidy_command ∷ [];
}

-- the number that was given under a name, or is its default
pub record IsNumber (name : Text) (rows : List Row) (n : ℕ) : Type 0 where
  pub text : Text
  pub given : one_of name rows ≡ Some text
  pub digits : IsNumeral 10 (without_leading_plus text)
  pub value : n ≡ digits_value 10 (without_leading_plus text)

-- whether the flag of a name was given: its value is one of two words
abbrev pub IsFlag : Text → List Row → Bool → Type 0
IsFlag name rows given = (one_of name rows ≡ Some (codes "true") → given ≡ true) × (one_of name rows ≡ Some (codes "false") → given ≡ false)

-- the path that was given under a name
abbrev pub IsPath : Text → List Row → Option Text → Type 0
IsPath name rows path = (first_of name rows ≡ path) × (is_some (all_of name rows) ≡ is_some path)

-- the values ask for a game to be solved
pub record AskToSolve (rows : List Row) (workers bound : ℕ) (winners : Bool) (known game : Option Text) : Type 0 where
  pub workers_are : IsNumber (codes "workers") rows workers
  pub bound_is : IsNumber (codes "bound") rows bound
  pub winners_are : IsFlag (codes "winners") rows winners
  pub known_is : IsPath (codes "known") rows known
  pub game_is : IsPath (codes "GAME") rows game

-- a command of this name, with these values, asks for this: each field is the value of its own name
abbrev pub IsRead : Option (Text × List Row) → Asked → Type 0
IsRead (Some (name, rows)) (Verify game solution) =
    (name ≡ codes "verify") × (first_of (codes "GAME") rows ≡ Some (string_bytes game)) × (first_of (codes "SOLUTION") rows ≡ Some (string_bytes solution))
IsRead (Some (name, rows)) (Tidy game) = (name ≡ codes "tidy") × IsPath (codes "GAME") rows (option_map (λ path. string_bytes path) game)
IsRead (Some (name, rows)) (Solve workers bound winners known game) =
    (name ≡ codes "solve") × AskToSolve rows workers bound winners (option_map (λ path. string_bytes path) known) (option_map (λ path. string_bytes path) game)
IsRead (Some (name, rows)) (Trace workers game) =
    (name ≡ codes "trace") × IsNumber (codes "workers") rows workers × IsPath (codes "GAME") rows (option_map (λ path. string_bytes path) game)
IsRead _ _ = ⊥

-- the words ask for this: no word for the joined run, and a request for help or for the version for a text to print
abbrev pub IsAskedBy : List Text → Asked → Type 0
IsAskedBy words Joined = words ≡ []
IsAskedBy words (Help text) = IsAmong DisplayHelp (fault_of program words) ⊎ IsAmong DisplayVersion (fault_of program words)
IsAskedBy words asked = IsRead (subcommand_of program words) asked

-- the words ask for help or for the version
abbrev pub AskForHelp : List Text → Type 0
AskForHelp words = (fault_of program words ≡ DisplayHelp ∷ []) ⊎ (fault_of program words ≡ DisplayVersion ∷ [])
