-- What is known of a game text of which some tokens were read.
use Rattle.std.specs.Prelude.{ℕ, ◌≡◌, ◌<◌, Bool, List, [], ◌∷◌, ◌++◌, length, map, codes, Option, Some, None}
use Rattle.std.specs.List.{AllByRecursion}
use Rattle.pg_game.specs.declared.player.Player.{Player}
use Rattle.pg_game.specs.Player.{of_digit}
use Rattle.pg_game.specs.declared.specification.Spec.{Spec}
use Rattle.pg_text.specs.declared.game_text.GameText.{GameText}
use Rattle.pg_text.specs.declared.reader.State.{State}
use Rattle.pg_text.specs.declared.reader.State.TheVariants as state
use Rattle.pg_text.specs.GameText.{WrittenGameLine, IsGameText, spec_of, headed, game_tokens, separated, name_tokens}
use Rattle.pg_text.specs.Token.{Token, Number, Word, Comma}
use Rattle.pg_text.specs.private.Machine.{Read}
use Rattle.pg_text.specs.private.Tables.{game_table}

abbrev pub AreNonempty : List WrittenGameLine → Type 0
AreNonempty lines = AllByRecursion (λ l. 0 < length l.successors) lines

abbrev pub AreOwners : List WrittenGameLine → Type 0
AreOwners lines = AllByRecursion (λ l. l.owner < 2) lines

-- the specifications are those of whole lines, whose owners are 0 or 1
abbrev pub AreLines : List Spec → List WrittenGameLine → Type 0
AreLines specs lines = (specs ≡ map spec_of lines) × AreOwners lines

-- the tokens are those of what may come before lines, and of these lines, of which there may be none
pub record IsWhole (ts : List Token) (lines : List WrittenGameLine) : Type 0 where
  pub header : Option ℕ
  pub start : Option ℕ
  pub tokens : ts ≡ game_tokens header start lines
  pub successors : AreNonempty lines

-- the tokens of a line begun
abbrev pub begun : State → WrittenGameLine → List Token
begun state.Id l = Number l.id ∷ []
begun state.Priority l = Number l.id ∷ Number l.priority ∷ []
begun state.Player l = Number l.id ∷ Number l.priority ∷ Number l.owner ∷ []
begun state.Listing l = Number l.id ∷ Number l.priority ∷ Number l.owner ∷ (separated l.successors ++ Comma ∷ [])
begun state.Vertex l = Number l.id ∷ Number l.priority ∷ Number l.owner ∷ separated l.successors
begun state.Named l = Number l.id ∷ Number l.priority ∷ Number l.owner ∷ (separated l.successors ++ name_tokens l.name)
begun s l = []

abbrev pub IsBegun : State → WrittenGameLine → Type 0
IsBegun state.Player l = (l.successors ≡ []) × (l.name ≡ None)
IsBegun state.Listing l = (0 < length l.successors) × (l.name ≡ None)
IsBegun state.Vertex l = (0 < length l.successors) × (l.name ≡ None)
IsBegun state.Named l = 0 < length l.successors
IsBegun s l = Unit {0}

-- the tokens lead to the state: they are those of whole lines and of a line begun
abbrev pub Leads : State → List Token → List WrittenGameLine → WrittenGameLine → Type 0
Leads state.Start ts lines l = (ts ≡ []) × (lines ≡ [])
Leads state.HeadWord ts lines l = (ts ≡ Word (codes "parity") ∷ []) × (lines ≡ [])
Leads state.HeadNumber ts lines l = (m : ℕ) × (ts ≡ Word (codes "parity") ∷ Number m ∷ []) × (lines ≡ [])
Leads state.Headed ts lines l = (m : ℕ) × (ts ≡ headed (codes "parity") (Some m)) × (lines ≡ [])
Leads state.StartWord ts lines l = (h : Option ℕ) × (ts ≡ headed (codes "parity") h ++ Word (codes "start") ∷ []) × (lines ≡ [])
Leads state.StartNumber ts lines l =
    (h : Option ℕ) × (k : ℕ) × (ts ≡ headed (codes "parity") h ++ Word (codes "start") ∷ Number k ∷ []) × (lines ≡ [])
Leads state.Started ts lines l = IsWhole ts lines
Leads state.Ready ts lines l = IsGameText ts lines
Leads s ts lines l = (done : List Token) × IsWhole done lines × IsBegun s l × (ts ≡ done ++ begun s l)

-- the builder holds these lines and the line begun, and all owners are 0 or 1
pub record Agrees (lines : List WrittenGameLine) (l : WrittenGameLine) (specs : List Spec) (id priority : ℕ) (owner : Player) (successors : List ℕ) : Type 0 where
  pub lines_are : AreLines specs lines
  pub id_is : id ≡ l.id
  pub priority_is : priority ≡ l.priority
  pub owner_is : owner ≡ of_digit l.owner
  pub small : l.owner < 2
  pub successors_are : successors ≡ l.successors

abbrev pub ReadsGame : Bool → List Token → State → GameText → Type 0
ReadsGame sound ts s it = Read game_table Leads sound ts s (λ lines l. Agrees lines l it.specs.specs it.id it.priority it.owner it.specs.successors)

-- the tokens are a game text of lines that specify these, whose owners are 0 or 1
abbrev pub SaysSpecs : List Token → List Spec → Type 0
SaysSpecs ts specs = (lines : List WrittenGameLine) × IsGameText ts lines × AreLines specs lines
