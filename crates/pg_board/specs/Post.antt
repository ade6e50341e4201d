-- What an accepted post adds, and what a board answers to a post: the contract of each call that posts cites this.
use Rattle.std.specs.Prelude.{ℕ, ◌≡◌, ◌↔◌, ◌++◌, ◌∷◌, [], length, Result, Ok, Err, IfOk, IfErr, OnErr}
use Rattle.pg_game.specs.declared.player.Player.{Player}
use Rattle.pg_game.specs.Player.{opponent}
use Rattle.pg_game.specs.VertexSet.{In, all_vertices, union}
use Rattle.pg_game.specs.Attractor.{Attractor}
use Rattle.pg_dominion.specs.Claim.{ClaimRows, named}
use Rattle.pg_dominion.specs.Checked.{CheckedClaim, claim_of, AgreesWithGame, IsForeign}
use Rattle.pg_board.specs.declared.journal.Refusal.{Refusal}
use Rattle.pg_board.specs.declared.journal.Refusal.TheVariants as refusal
use Rattle.pg_board.specs.State.{State, settled, rest_of, IsGoodOn}
use Rattle.pg_board.specs.Refusal.{Refuses, IsOfState}
use Rattle.pg_dominion.specs.declared.claim.Claim.{Claim}
use Rattle.pg_board.specs.declared.journal.Entry.{Entry}
use Rattle.pg_board.specs.declared.journal.Posted.{Posted}
use Rattle.pg_board.specs.BoardRecord.{BoardRecord}
use Rattle.pg_board.specs.Journal.{state_of, Answers, IsLawful, IsDominionAfter}

-- one entry, with the worker's number, that answers the claim, and its numbers
pub record Adds (old new : BoardRecord) (worker : ℕ) (claim : Claim) (posted : Posted) : Type 0 where
  pub entry : Entry
  pub journal : new.journal ≡ old.journal ++ entry ∷ []
  pub answers : Answers old.graph (state_of old.journal) claim.player claim.rows entry
  pub by_worker : entry.worker ≡ worker
  pub number : posted.entry ≡ length old.journal
  pub claimed : posted.claimed ≡ entry.claimed
  pub settled : posted.settled ≡ length entry.rows

-- a post of a claim that was a dominion settles its rest, or the claim is stale
abbrev pub AnswersDominion : State → ClaimRows → Result Posted Refusal → Type 0
AnswersDominion st rows (Ok posted) = posted.claimed ≡ length (rest_of st rows)
AnswersDominion st rows (Err refusal.Stale) = rest_of st rows ≡ []
AnswersDominion st rows (Err refusal.Memory) = Unit {0}
AnswersDominion st rows (Err other) = ⊥

-- the player then has what his old vertices and the claim's attract, and the opponent the same as before
pub record SettlesDominion (old new : BoardRecord) (p : Player) (rows : ClaimRows) : Type 0 where
  pub own : (v : ℕ) → In (settled (state_of new.journal) p) v ↔ Attractor old.graph p (all_vertices old.graph)
      (union (settled (state_of old.journal) p) (named rows)) v
  pub other : (v : ℕ) → settled (state_of new.journal) (opponent p) v ≡ settled (state_of old.journal) (opponent p) v

abbrev pub SettlesUnlessMemory : BoardRecord → BoardRecord → Player → ClaimRows → Result Posted Refusal → Type 0
SettlesUnlessMemory old new p rows (Ok posted) = SettlesDominion old new p rows
SettlesUnlessMemory old new p rows (Err refusal.Memory) = Unit {0}
SettlesUnlessMemory old new p rows (Err other) = SettlesDominion old new p rows

-- what a board answers to a claim, and what it then is
pub record IsPostAnswer (old new : BoardRecord) (worker : ℕ) (claim : Claim) (result : Result Posted Refusal) : Type 0 where
  pub lawful : IsLawful new.graph new.journal
  pub game : new.graph ≡ old.graph
  pub posted : IfOk result (λ posted. IsGoodOn old.graph (state_of old.journal) claim.player claim.rows × Adds old new worker claim posted)
  pub refused : IfErr result (λ e. Refuses old.graph (state_of old.journal) claim.player claim.rows e)
  pub unchanged : OnErr result (new ≡ old)
  pub old_copies : (k : ℕ) → IsDominionAfter old.graph old.journal k claim.player claim.rows
      → AnswersDominion (state_of old.journal) claim.rows result × SettlesUnlessMemory old new claim.player claim.rows result

-- the checked claim does not agree with the game, and the board is as before
pub record IsForeignAnswer (old new : BoardRecord) (c : CheckedClaim) (v : ℕ) : Type 0 where
  pub foreign : IsForeign old.graph c.player c.rows v
  pub unchanged : new ≡ old
  pub lawful : IsLawful new.graph new.journal

-- the checked claim agrees with the game, and this is the answer to its claim: the reason of a refusal is the state, or memory
pub record IsAgreedAnswer (old new : BoardRecord) (worker : ℕ) (c : CheckedClaim) (result : Result Posted Refusal) : Type 0 where
  pub agrees : AgreesWithGame old.graph c.player c.rows
  pub of_state : IfErr result IsOfState
  pub answer : IsPostAnswer old new worker (claim_of c) result

abbrev pub IsSettleAnswer : BoardRecord → BoardRecord → ℕ → CheckedClaim → Result Posted Refusal → Type 0
IsSettleAnswer old new worker c (Err (refusal.Foreign v)) = IsForeignAnswer old new c v
IsSettleAnswer old new worker c result = IsAgreedAnswer old new worker c result
