-- A claim in arrays, and the answers of the call that posts it.
use Rattle.std.specs.Prelude.{ℕ, ◌≡◌, ◌≢◌, ◌<◌, ◌≤◌, ◌⊎◌, List, Option, length, map, slice_index, Ok, Err}
use Rattle.std.specs.List.{range_with_len}
use Rattle.pg_game.specs.Player.{of_digit}
use Rattle.pg_dominion.specs.declared.claim.Claim.{Claim}
use Rattle.pg_dominion.specs.declared.claim.ClaimFault.TheVariants as claim_fault
use Rattle.pg_board.specs.declared.journal.Posted.{Posted}
use Rattle.pg_board.specs.declared.journal.Refusal.{Refusal}
use Rattle.pg_board.specs.declared.journal.Refusal.TheVariants as refusal
use Rattle.pg_board.specs.BoardRecord.{BoardRecord}
use Rattle.pg_board.specs.Post.{IsPostAnswer}
use Rattle.pgboard_c.specs.declared.claims.ClaimArrays.{ClaimArrays}
use Rattle.pgboard_c.specs.declared.board.PostedNumbers.{PostedNumbers}
use Rattle.pgboard_c.specs.declared.fault.Structure.TheVariants as structure
use Rattle.pgboard_c.specs.declared.fault.PostFault.TheVariants as post_fault
use Rattle.pgboard_c.specs.declared.fault.Fault.{Fault}
use Rattle.pgboard_c.specs.declared.fault.Fault.TheVariants as fault
use Rattle.pgboard_c.specs.Numbers.{structure_size}
use Rattle.pgboard_c.specs.Arrays.{choice_from}
use Rattle.pgboard_c.specs.Board.{SessionOutcome, IsBoardOutcome}

-- a claim in arrays; the size is the one in the struct
pub record ClaimLists : Type 0 where
  pub size : ℕ
  pub worker : ℕ
  pub player : ℕ
  pub vertices : List ℕ
  pub choices : List ℕ

abbrev pub claim_lists : ClaimArrays → ClaimLists
claim_lists c = record { size = c.size; worker = c.worker; player = c.player; vertices = c.vertices.now; choices = c.choices.now }

-- the row at a place of the arrays
abbrev pub claim_row : ClaimLists → ℕ → ℕ × Option ℕ
claim_row c i = (slice_index c.vertices i, choice_from (slice_index c.choices i))

abbrev pub claim_of_lists : ClaimLists → Claim
claim_of_lists c = record { player = of_digit c.player; rows = map (claim_row c) (range_with_len 0 (length c.vertices)) }

-- the struct has its size, the player is 0 or 1, and the arrays have one length
pub record IsClaim (c : ClaimLists) : Type 0 where
  pub size : c.size ≡ structure_size structure.Claim
  pub player : c.player ≤ 1
  pub lengths : length c.vertices ≡ length c.choices

-- the first reason why the arrays are no claim; refused memory says nothing of them
abbrev pub IsNoClaim : ClaimLists → Fault → Type 0
IsNoClaim c fault.Memory = Unit {0}
IsNoClaim c (fault.Size structure.Claim) = c.size ≢ structure_size structure.Claim
IsNoClaim c (fault.Post (post_fault.Player p)) = (c.size ≡ structure_size structure.Claim) × (p ≡ c.player) × (1 < c.player)
IsNoClaim c (fault.Post (post_fault.Lengths m n)) =
    (c.size ≡ structure_size structure.Claim) × (c.player ≤ 1) × (m ≡ length c.vertices) × (n ≡ length c.choices) × (m ≢ n)
IsNoClaim c other = ⊥

-- why a board refuses a claim, as a fault
abbrev pub refusal_fault : Refusal → Fault
refusal_fault (refusal.Claim (claim_fault.Shape row)) = fault.Post (post_fault.Shape row)
refusal_fault (refusal.Claim (claim_fault.Cycle v)) = fault.Post (post_fault.Cycle v)
refusal_fault (refusal.Claim claim_fault.Memory) = fault.Memory
refusal_fault (refusal.Foreign v) = fault.Memory
refusal_fault (refusal.Lost v) = fault.Post (post_fault.Lost v)
refusal_fault refusal.Stale = fault.Post post_fault.Stale
refusal_fault (refusal.Open v w) = fault.Post (post_fault.Open v w)
refusal_fault refusal.Memory = fault.Memory

-- the board's answer to the claim of the arrays is a post, of which the numbers are reported
pub record IsPosted (old new : BoardRecord) (c : ClaimLists) (n : PostedNumbers) : Type 0 where
  pub claim : IsClaim c
  pub posted : Posted
  pub answer : IsPostAnswer old new c.worker (claim_of_lists c) (Ok posted)
  pub entry : n.entry ≡ posted.entry
  pub claimed : n.claimed ≡ posted.claimed
  pub settled : n.settled ≡ posted.settled

-- the board's answer to the claim of the arrays is a refusal, and the fault says why
pub record IsRefused (s : BoardRecord) (c : ClaimLists) (e : Fault) : Type 0 where
  pub claim : IsClaim c
  pub refusal : Refusal
  pub answer : IsPostAnswer s s c.worker (claim_of_lists c) (Err refusal)
  pub fault_is : e ≡ refusal_fault refusal

-- why a claim is not posted: the first of the reasons that apply
abbrev pub IsPostFault : BoardRecord → ClaimLists → Fault → Type 0
IsPostFault s c e = IsNoClaim c e ⊎ IsRefused s c e

abbrev pub IsPostOutcome : ClaimLists → PostedNumbers → PostedNumbers → SessionOutcome
IsPostOutcome c old_posted posted = IsBoardOutcome (λ s t. IsPosted s.board t.board c posted) (λ s. IsPostFault s c) (posted ≡ old_posted)
