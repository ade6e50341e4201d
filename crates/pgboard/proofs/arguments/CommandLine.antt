-- What the reader of command lines makes of a command and of words.
use Rattle.std.proofs.Common.{rules, refl, sym, ap, ap₂, subst, ◌∙◌, inl, inr, arith, ◌≡◌, ◌≤◌, ◌<◌, ◌^◌, ◌||◌, ◌++◌}
use Rattle.std.proofs.Common.{ℕ, Bool, true, false, List, [], ◌∷◌, Option, Some, None, codes, slice_index, length, map, Bor}
use Rattle.std.specs.Prelude.{is_some, Ok, Err, Result, IfOk, ◌⊎◌}
use Rattle.std.specs.Str.Parse.{ParsesUnsigned, ExplainsUnsignedError, HasUnsignedDigitsIfOk}
use Rattle.std.specs.declared.num.ParseIntError.{ParseIntError}
use Rattle.clap.specs.Words.{AddsArg, App, FailsBy, HasKind, HasMatchesOf, IsAmong, Kinds, ReadsOne, Row, Rule, Shape, Text, all_of, fault_of}
use Rattle.clap.specs.Words.{first_of, is_simple, is_simple_and_free, kind_of, matched_of, one_text, rows_of, rule_of, subcommand_of, subcommand_rows_of}
use Rattle.clap.specs.declared.error.Error.{Error}
use Rattle.clap.specs.declared.error.kind.ErrorKind.{ErrorKind}
use Rattle.clap.specs.declared.error.kind.ErrorKind.TheVariants.{OutOfMemory, DisplayHelp, DisplayVersion}
use Rattle.clap.specs.declared.parser.matches.ArgMatches.{ArgMatches}
use Rattle.clap.proofs.OnLiterals.{clap_on_literals}
use Rattle.clap.specs.declared.builder.arg.Arg.{Arg}
use Rattle.clap.specs.declared.builder.command.Command.{Command}
use Rattle.clap.specs.declared.parser.matches.Found.{Found}
use Rattle.clap.specs.declared.parser.matches.MatchedArg.{MatchedArg}
use Rattle.clap.proofs.WalkLemmas.{one_text-rows, raw_values-rows, first_value-rows}
use Rattle.pgboard.specs.declared.arguments.Asked.{Asked}
use Rattle.pgboard.specs.declared.fault.AskedFault.{AskedFault}
use Rattle.pgboard.specs.declared.arguments.Asked.TheVariants.{Joined, Verify, Tidy, Solve, Trace, Help}
use Rattle.pgboard.specs.Asking.{IsInRange}
use Rattle.pgboard.specs.Line.{program, AskForHelp, IsAskedBy, IsFlag, IsNumber, IsPath, IsRead}
use Rattle.pgboard.specs.private.Line.{IsCommand, IsHelp}

-- one more argument of a command
pub one_more : (old new : Command) (a : Arg) (s : Shape) (r : Rule) → IsCommand s old → AddsArg old a new → a.global ≡ false → rule_of a ≡ r
    → IsCommand (record s { rules = s.rules ++ r ∷ [] }) new
one_more old new a s r is adds local rule = (
  ap (λ a. a.top) (adds.shape local) ∙ ap₂ (λ (s : Shape) (r : Rule). record s { rules = s.rules ++ r ∷ [] }) is.0 rule,
  adds.globals ∙ ap₂ (λ (x y : Bool). x || y) is.1 local,
)

-- how a number of 32 bits is read from a text
abbrev pub ReadsNumber : Text → Option ℕ → Type 0
ReadsNumber = ReadsOne {E = ParseIntError} (λ bs r. ParsesUnsigned 32 10 bs r × ExplainsUnsignedError 10 bs r × HasUnsignedDigitsIfOk bs r)

module _ (f : Found) (name : Text) (result : Option ℕ) (none : one_text f name ≡ None → result ≡ None)
    (value : (t : Text) → one_text f name ≡ Some t → ReadsNumber t result) where
  pub number_read : (n : ℕ) → result ≡ Some n → IsNumber name (rows_of f) n
  number_read n is = go (one_text f name) refl
    where
      go : (o : Option Text) → one_text f name ≡ o → IsNumber name (rows_of f) n
      go None e = let bad : None ≡ Some n = sym (none e) ∙ is in absurd (cc bad)
      go (Some t) e =
          let read = subst (ReadsNumber t) is (value t e) in
          record { text = t; given = sym (one_text-rows f name) ∙ e; digits = read.0.0.0; value = read.0.1 }

  pub number_given : (n : ℕ) → IsNumber name (rows_of f) n → n < 2 ^ 32 → result ≡ Some n
  number_given n is fits = go result refl
    where
      reads : ReadsNumber is.text result
      reads = value is.text (one_text-rows f name ∙ is.given)

      go : (o : Option ℕ) → result ≡ o → result ≡ Some n
      go None e =
          let read = subst (ReadsNumber is.text) e reads in
          absurd (read.1.0 (is.digits, subst (λ (k : ℕ). k < 2 ^ 32) is.value fits))
      go (Some m) e = let read = subst (ReadsNumber is.text) e reads in e ∙ ap (λ (k : ℕ). Some k) (read.0.1 ∙ sym is.value)

pub flag_read : (f : Found) (name : Text) (result : Bool) → (one_text f name ≡ Some (codes "true") → result ≡ true)
    → (one_text f name ≡ Some (codes "false") → result ≡ false) → IsFlag name (rows_of f) result
flag_read f name result value other = (λ e. value (one_text-rows f name ∙ e), λ e. other (one_text-rows f name ∙ e))

-- a name that has no entry has no path
pub no_path : (f : Found) (name : Text) → is_some (matched_of f name) ≡ false → IsPath name (rows_of f) None
no_path f name is = go (matched_of f name) refl
  where
    go : (o : Option MatchedArg) → matched_of f name ≡ o → IsPath name (rows_of f) None
    go None e = search (rules, raw_values-rows, first_value-rows, e)
    go (Some a) e = let bad : true ≡ false = ap (λ (o : Option MatchedArg). is_some o) (sym e) ∙ is in absurd (cc bad)

-- one that has an entry has a path, where it is known to have one or none
pub some_path : (f : Found) (name : Text) (path : Option Text) → is_some (matched_of f name) ≡ true → IsPath name (rows_of f) path
    → (p : Text) × (first_of name (rows_of f) ≡ Some p)
some_path f name path is path_is = go path path_is
  where
    entry : is_some (all_of name (rows_of f)) ≡ true
    entry = search (rules, raw_values-rows, is)

    go : (path : Option Text) → IsPath name (rows_of f) path → (p : Text) × (first_of name (rows_of f) ≡ Some p)
    go None h = let bad : true ≡ false = sym entry ∙ h.1 in absurd (cc bad)
    go (Some p) h = (p, h.0)

-- what is asked for under the name `solve` or `verify` has its values
other_name : {A : Type 0} (x y : ℕ) (xs ys : List ℕ) → x ∷ xs ≡ y ∷ ys → (x ≡ y → ⊥) → A
other_name x y xs ys e differ = absurd (differ (ap (λ (l : List ℕ). slice_index l 0) e))

-- a number within a range was given under a name
pub record HasNumber (name : Text) (rows : List Row) (least most : ℕ) : Type 0 where
  pub number : ℕ
  pub given : IsNumber name rows number
  pub low : least ≤ number
  pub high : number ≤ most

pub solving : (rows : List Row) (asked : Asked) → IsRead (Some (codes "solve", rows)) asked → IsInRange asked → HasNumber (codes "bound") rows 0 8
solving rows (Solve w b f k g) is range = record { number = b; given = is.1.bound_is; low = omega arith; high = range.2 }
solving rows (Verify g s) is range = other_name 115 118 _ _ is.0 (λ e. omega (arith, e))
solving rows (Tidy g) is range = other_name 115 116 _ _ is.0 (λ e. omega (arith, e))
solving rows (Trace w g) is range = other_name 115 116 _ _ is.0 (λ e. omega (arith, e))
solving rows Joined is range = absurd is
solving rows (Help t) is range = absurd is

pub verifying : (rows : List Row) (asked : Asked) → IsRead (Some (codes "verify", rows)) asked
    → (path : Text) × (first_of (codes "SOLUTION") rows ≡ Some path)
verifying rows (Verify g s) is = (_, is.2)
verifying rows (Solve w b f k g) is = other_name 118 115 _ _ is.0 (λ e. omega (arith, e))
verifying rows (Tidy g) is = other_name 118 116 _ _ is.0 (λ e. omega (arith, e))
verifying rows (Trace w g) is = other_name 118 116 _ _ is.0 (λ e. omega (arith, e))
verifying rows Joined is = absurd is
verifying rows (Help t) is = absurd is

simple : is_simple program ≡ true
unfolding clap_on_literals
simple = refl

free : is_simple_and_free program ≡ true
unfolding clap_on_literals
free = refl

-- the subcommand that the reader found is that of the words
pub found_subcommand : (command : App) (words : List Text) (m : ArgMatches) → command ≡ program → HasMatchesOf command words m
    → subcommand_rows_of m ≡ subcommand_of program words
found_subcommand command words m is has = (has (ap is_simple is ∙ simple)).1 ∙ ap (λ (a : App). subcommand_of a words) is

-- the reader fails as the words say
pub fails_by : {T : Type 0} (command : App) (words : List Text) (r : Result T Error) → command ≡ program
    → (is_simple_and_free command ≡ true → FailsBy (fault_of command words) r) → FailsBy (fault_of program words) r
fails_by command words r is kinds = subst (λ (a : App). FailsBy (fault_of a words) r) is (kinds (ap is_simple_and_free is ∙ free))

never_joined : (found : Option (Text × List Row)) → IsRead found Joined → ⊥
never_joined None is = is
never_joined (Some p) is = is

never_help : (found : Option (Text × List Row)) (text : _) → IsRead found (Help text) → ⊥
never_help None text is = is
never_help (Some p) text is = is

pub asked_by : (words : List Text) (asked : Asked) → IsRead (subcommand_of program words) asked → IsAskedBy words asked
asked_by words Joined is = absurd (never_joined _ is)
asked_by words (Help text) is = absurd (never_help _ text is)
asked_by words (Verify g s) is = is
asked_by words (Tidy g) is = is
asked_by words (Solve w b f k g) is = is
asked_by words (Trace w g) is = is

pub read_by : (words : List Text) (asked : Asked) → (words ≡ [] → ⊥) → fault_of program words ≡ [] → IsAskedBy words asked
    → IsRead (subcommand_of program words) asked
read_by words Joined some none is = absurd (some is)
read_by words (Help text) some none (inl is) = absurd (subst (IsAmong DisplayHelp) none is)
read_by words (Help text) some none (inr is) = absurd (subst (IsAmong DisplayVersion) none is)
read_by words (Verify g s) some none is = is
read_by words (Tidy g) some none is = is
read_by words (Solve w b f k g) some none is = is
read_by words (Trace w g) some none is = is

help_among : (k : ErrorKind) (kinds : Kinds) → (k ≡ OutOfMemory) ⊎ IsAmong k kinds → (k ≡ DisplayHelp) ⊎ (k ≡ DisplayVersion)
    → IsAmong DisplayHelp kinds ⊎ IsAmong DisplayVersion kinds
help_among k kinds (inl memory) (inl is) = let bad : OutOfMemory ≡ DisplayHelp = sym memory ∙ is in absurd (cc bad)
help_among k kinds (inl memory) (inr is) = let bad : OutOfMemory ≡ DisplayVersion = sym memory ∙ is in absurd (cc bad)
help_among k kinds (inr among) (inl is) = inl (subst (λ (k : ErrorKind). IsAmong k kinds) is among)
help_among k kinds (inr among) (inr is) = inr (subst (λ (k : ErrorKind). IsAmong k kinds) is among)

-- a text to print comes for help or for the version alone
pub helped : (words : List Text) (e : Error) (r : Result Asked AskedFault) → HasKind (fault_of program words) e → IfOk r IsHelp
    → IfOk r (λ _. (kind_of e ≡ DisplayHelp) ⊎ (kind_of e ≡ DisplayVersion)) → IfOk r (IsAskedBy words)
helped words e (Ok (Help text)) has is kind = help_among (kind_of e) (fault_of program words) has kind
helped words e (Ok Joined) has is kind = absurd is
helped words e (Ok (Verify g s)) has is kind = absurd is
helped words e (Ok (Tidy g)) has is kind = absurd is
helped words e (Ok (Solve w b f k g)) has is kind = absurd is
helped words e (Ok (Trace w g)) has is kind = absurd is
helped words e (Err f) has is kind = tt

pub some_word : (words : List (Bor Text)) → (length words ≡ 0 → ⊥) → map (λ word. word.now) words ≡ [] → ⊥
some_word [] some is = some refl
some_word (w ∷ ws) some is = absurd (cc is)

-- words that ask for help are no line that is taken
pub not_helped : (words : List Text) → fault_of program words ≡ [] → AskForHelp words → ⊥
not_helped words none (inl is) = let bad : [] ≡ DisplayHelp ∷ [] = sym none ∙ is in cc bad
not_helped words none (inr is) = let bad : [] ≡ DisplayVersion ∷ [] = sym none ∙ is in cc bad

-- and the error says so, where memory is there
pub asked_for_help : (words : List Text) (e : Error) → HasKind (fault_of program words) e → AskForHelp words
    → (kind_of e ≡ OutOfMemory) ⊎ ((kind_of e ≡ DisplayHelp) ⊎ (kind_of e ≡ DisplayVersion))
asked_for_help words e (inl memory) is = inl memory
asked_for_help words e (inr among) (inl is) = inr (elim (subst (IsAmong (kind_of e)) is among) [ inl k ↦ inl k | inr none ↦ absurd none ])
asked_for_help words e (inr among) (inr is) = inr (elim (subst (IsAmong (kind_of e)) is among) [ inl k ↦ inr k | inr none ↦ absurd none ])
