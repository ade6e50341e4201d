-- The output and the faults of a run that solves a game from what was read of it, or from nothing.
use Rattle.pgboard.proofs.Common.{ℕ, Bool, true, false, List, [], length, refl, arith, Option, Some, None, replicate, slice_get}
use Rattle.pgboard.proofs.Common.{Player, Graph, IsGame, KnownRows, IsKnownRegion, RunFault, IsReadGame, IsNoGame, ◌≡◌, sym, subst}
use Rattle.pgboard.proofs.Common.{IsSolveText, IsSolveOutput}
use Rattle.pgboard.proofs.Common.{Err, IsErrOf}
use Rattle.std.specs.Borrow.{MutBor}
use Rattle.pgboard.specs.KnownSource.{IsReadKnown, left_in}
use Rattle.pgboard.specs.Refused.{IsNotKnown}
use Rattle.pgboard.specs.private.Run.{IsNotSolved}
use Rattle.pgboard.specs.declared.fault.RunFault.TheVariants as fault
use Rattle.pgboard.specs.Run.{IsGameFault}
use Rattle.pgboard.proofs.solve.EmptyText.{says_nothing}
use Rattle.pgboard.proofs.solve.NothingKnown.{nothing_kept, nothing_regions, only_memory}

pub not_solved : (known : Option (List ℕ)) (g : Graph) (rows : KnownRows) → IsReadKnown g known rows → (e : RunFault) → IsNotSolved g rows e
    → IsNotKnown g known e
not_solved None g rows is (fault.Known f) h = tt
not_solved (Some text) g rows is (fault.Known f) h = (is.0, rows, is.1, h)
not_solved known g rows is fault.Memory h = tt
not_solved known g rows is fault.Read h = absurd h
not_solved known g rows is fault.TooLong h = absurd h
not_solved known g rows is (fault.Game f) h = absurd h
not_solved known g rows is (fault.Solution f) h = absurd h
not_solved known g rows is fault.Write h = absurd h

pub solved : (known : Option (List ℕ)) (g : Graph) (rows : KnownRows) → IsReadKnown g known rows → (games : Option (List ℕ)) (winners : Bool) (out : List ℕ)
    → IsReadGame games g → ((p : Player) → IsKnownRegion g rows p) → IsSolveText winners g rows out → IsSolveOutput games known winners out
solved known g rows is games winners out game regions written = record {
  graph = g;
  rows = rows;
  game_is = game;
  known_is = is;
  regions = regions;
  text_is = written;
}

-- a text of a solution keeps what rows say that say nothing
text_of_nothing : (winners : Bool) (g : Graph) (known : KnownRows) (n : ℕ) (out : List ℕ) → IsSolveText winners g known out
    → IsSolveText winners g (replicate n None) out
text_of_nothing true g known n out written = written
text_of_nothing false g known n out (rows, exact, kept, is) = (rows, exact, nothing_kept g n (λ v. slice_get rows v), is)

-- a game of which nothing was known is solved
pub solved_alone : (games : Option (List ℕ)) (winners : Bool) (out : List ℕ) (g : Graph) (known : KnownRows) → IsGame g → IsReadGame games g
    → IsSolveText winners g known out → IsSolveOutput games (Some []) winners out
solved_alone games winners out g known game is written =
    solved (Some []) g (replicate (length g) None) (omega arith, says_nothing g (replicate (length g) None) refl) games winners out is
    (nothing_regions g game) (text_of_nothing winners g known (length g) out written)

-- what is known of the game by the text that a source had; without a source that is nothing, in no rows
abbrev pub IsTaken : {S : Type 0} → (S → Option (List ℕ)) → Graph → Option (MutBor S) → KnownRows → Type 0
IsTaken left g None rows = rows ≡ []
IsTaken left g (Some source) rows = IsReadKnown g (left source.now) rows

-- the output of a run from what it took of a source, or from nothing
pub solved_from : {K : Type 0} (left : K → Option (List ℕ)) (source : Option (MutBor K)) (g : Graph) (known : KnownRows) → IsTaken left g source known
    → IsGame g → (games : Option (List ℕ)) (winners : Bool) (out : List ℕ) → IsReadGame games g → ((p : Player) → IsKnownRegion g known p)
    → IsSolveText winners g known out → IsSolveOutput games (left_in left source) winners out
solved_from left None g known taken game games winners out is regions written = solved_alone games winners out g known game is written
solved_from left (Some source) g known taken game games winners out is regions written =
    solved (left source.now) g known taken games winners out is regions written

-- why such a run has no solution
pub unsolved_from : {K : Type 0} (left : K → Option (List ℕ)) (source : Option (MutBor K)) (g : Graph) (known : KnownRows) → IsTaken left g source known
    → IsGame g → (e : RunFault) → IsNotSolved g known e → IsNotKnown g (left_in left source) e
unsolved_from left None g known taken game e h = subst (λ (f : RunFault). IsNotKnown g (Some []) f) (sym (only_memory g game known taken e h)) tt
unsolved_from left (Some source) g known taken game e h = not_solved (left source.now) g known taken e h

-- without a source the reason is refused memory
pub unsolved_alone : {K : Type 0} (left : K → Option (List ℕ)) (source : Option (MutBor K)) (g : Graph) (known : KnownRows) → IsTaken left g source known
    → IsGame g → (e : RunFault) → IsNotSolved g known e → source ≡ None → (games : Option (List ℕ)) → IsNoGame games e
unsolved_alone left None g known taken game e h none games = subst (λ (f : RunFault). IsNoGame games f) (sym (only_memory g game known taken e h)) tt
unsolved_alone left (Some source) g known taken game e h none games = absurd (cc none)

-- a run has a source of what is known, or none
pub by_source : {S : Type 0} (source : Option S) (P : Type 0) → (source ≡ None → P) → ((s : S) → source ≡ Some s → P) → P
by_source None P none some = none refl
by_source (Some s) P none some = some s refl

-- what is not known of a game is no fault of the game's text
pub no_game_fault : (g : Graph) (known : Option (List ℕ)) (e : RunFault) → IsNotKnown g known e → IsGameFault e → ⊥
no_game_fault g known (fault.Game f) h is = h
no_game_fault g known (fault.Solution f) h is = is
no_game_fault g known (fault.Known f) h is = is
no_game_fault g known fault.Read h is = is
no_game_fault g known fault.TooLong h is = is
no_game_fault g known fault.Memory h is = is
no_game_fault g known fault.Write h is = is

-- a game is not unsolved because of a read
pub not_read : {A : Type 0} (g : Graph) (rows : KnownRows) (e : RunFault) → IsNotSolved g rows e → IsErrOf {T = A} (Err e) fault.Read → ⊥
not_read g rows (fault.Game f) h is = h
not_read g rows (fault.Solution f) h is = h
not_read g rows (fault.Known f) h is = cc is
not_read g rows fault.Read h is = h
not_read g rows fault.TooLong h is = h
not_read g rows fault.Memory h is = cc is
not_read g rows fault.Write h is = h
