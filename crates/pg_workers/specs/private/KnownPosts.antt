-- The posts of what is known of a game, and their results (private).
use Rattle.std.specs.Prelude.{ℕ, ◌≡◌, ◌+◌, ◌↔◌, List, [], ◌∷◌, Some}
use Rattle.pg_game.specs.declared.player.Player.{Player}
use Rattle.pg_game.specs.declared.player.Player.TheVariants.{Even, Odd}
use Rattle.pg_game.specs.Player.{opponent}
use Rattle.pg_game.specs.Graph.{Graph}
use Rattle.pg_game.specs.VertexSet.{In}
use Rattle.pg_text.specs.Known.{KnownRows, known_of, known_choice}
use Rattle.pg_dominion.specs.KeptEdges.{own_choices}
use Rattle.pg_board.specs.declared.journal.Refusal.{Refusal}
use Rattle.pg_board.specs.declared.journal.Refusal.TheVariants as refusal
use Rattle.pg_board.specs.BoardRecord.{BoardRecord}
use Rattle.pg_board.specs.State.{settled}
use Rattle.pg_board.specs.Journal.{Journal, state_of, number_settled, IsLawful}
use Rattle.pg_workers.specs.declared.report.ReportRow.{ReportRow}
use Rattle.pg_workers.specs.Report.{settled_in}
use Rattle.pg_board.specs.Finish.{AreOfCaller, IsLater}
use Rattle.pg_workers.specs.declared.known.SolveFault.{SolveFault}
use Rattle.pg_workers.specs.declared.known.SolveFault.TheVariants as fault
use Rattle.pg_workers.specs.KnownRegions.{IsKnownRegion, IsAttractedToKnown, KeepsKnown, HasCount, IsKnownSize, IsRefusedKnown}

-- the known set is a region, the player has what he attracts to it, and the opponent the same as before
pub record SettlesKnown (old new : BoardRecord) (known : KnownRows) (p : Player) : Type 0 where
  pub region : IsKnownRegion old.graph known p
  pub later : IsLater (p ∷ []) old new
  pub own : (v : ℕ) → In (settled (state_of new.journal) p) v ↔ IsAttractedToKnown old.graph known p v
  pub other : (v : ℕ) → settled (state_of new.journal) (opponent p) v ≡ settled (state_of old.journal) (opponent p) v
  pub states : (v : ℕ) → In (known_of known p) v → state_of new.journal v ≡ Some (p, own_choices old.graph p (known_choice known) v)
  pub more : ℕ
  pub size : HasCount (IsAttractedToKnown old.graph known p) more
  pub number : number_settled new.journal ≡ number_settled old.journal + more

-- the possible faults of a post of the player's known set, on a board with this lawful journal
abbrev pub IsKnownFault : Graph → Journal → KnownRows → Player → SolveFault → Type 0
IsKnownFault g journal known p fault.Memory = Unit {0}
IsKnownFault g journal known p (fault.Known q e) = (q ≡ p) × IsLawful g journal × IsRefusedKnown g journal known p e

-- memory is never wrapped
abbrev pub fault_of : Player → Refusal → SolveFault
fault_of p refusal.Memory = fault.Memory
fault_of p e = fault.Known p e

-- both known sets are regions, and only what they attract is settled: by an entry of worker 0 for Even's, and then one for Odd's
pub record HasKnown (g : Graph) (known : KnownRows) (journal : Journal) : Type 0 where
  pub entries : AreOfCaller (Even ∷ Odd ∷ []) journal
  pub regions : (p : Player) → IsKnownRegion g known p
  pub states : KeepsKnown g known (state_of journal)
  pub number : IsKnownSize g known (number_settled journal)

-- both known sets are regions, and the rows' column `settled` and what the sets attract are together the number settled
pub record HasSettled (g : Graph) (known : KnownRows) (report : List ReportRow) (journal : Journal) : Type 0 where
  pub regions : (p : Player) → IsKnownRegion g known p
  pub attracted : ℕ
  pub size : IsKnownSize g known attracted
  pub sum : settled_in report + attracted ≡ number_settled journal
