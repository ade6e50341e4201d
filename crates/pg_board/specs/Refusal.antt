-- Why a board refuses a claim: the first reason that applies.
use Rattle.std.specs.Prelude.{ℕ, ◌≡◌, ◌≢◌, false, []}
use Rattle.pg_game.specs.declared.player.Player.{Player}
use Rattle.pg_game.specs.Player.{opponent}
use Rattle.pg_game.specs.Graph.{Graph}
use Rattle.pg_game.specs.Least.{IsFirstEdge, IsLeast, NoneHas}
use Rattle.pg_game.specs.VertexSet.{In, union}
use Rattle.pg_game.specs.Kept.{KeptEdge}
use Rattle.pg_dominion.specs.Claim.{ClaimRows, named, choice_in, IsSound}
use Rattle.pg_dominion.specs.Fault.{IsClaimFault}
use Rattle.pg_dominion.specs.declared.claim.ClaimFault.{ClaimFault}
use Rattle.pg_dominion.specs.declared.claim.ClaimFault.TheVariants as claim_fault
use Rattle.pg_board.specs.declared.journal.Refusal.{Refusal}
use Rattle.pg_board.specs.declared.journal.Refusal.TheVariants as refusal
use Rattle.pg_board.specs.State.{State, settled, rest_of}

-- the claim has the vertex, and it is settled for the opponent
abbrev pub IsLost : State → Player → ClaimRows → ℕ → Type 0
IsLost st p rows v = In (named rows) v × In (settled st (opponent p)) v

-- a kept edge of the rows that ends neither in them nor at the player's vertices
abbrev pub IsOpenEdge : Graph → State → Player → ClaimRows → ℕ → ℕ → Type 0
IsOpenEdge g st p rows v w = KeptEdge g p (named rows) (choice_in rows) v w × (union (named rows) (settled st p) w ≡ false)

abbrev pub Refuses : Graph → State → Player → ClaimRows → Refusal → Type 0
Refuses g st p rows (refusal.Claim fault) = IsClaimFault g p rows fault × (fault ≢ claim_fault.Memory)
Refuses g st p rows (refusal.Foreign v) = ⊥
Refuses g st p rows (refusal.Lost v) = IsSound g p rows × IsLeast (IsLost st p rows) v
Refuses g st p rows refusal.Stale = IsSound g p rows × NoneHas (IsLost st p rows) × (rest_of st rows ≡ [])
Refuses g st p rows (refusal.Open v w) = IsSound g p rows × NoneHas (IsLost st p rows) × IsFirstEdge (IsOpenEdge g st p (rest_of st rows)) v w
Refuses g st p rows refusal.Memory = Unit {0}

-- the refusal where a claim's check failed
abbrev pub refusal_of : ClaimFault → Refusal
refusal_of claim_fault.Memory = refusal.Memory
refusal_of fault = refusal.Claim fault

-- the reason is the state, or memory was refused
abbrev pub IsOfState : Refusal → Type 0
IsOfState (refusal.Claim fault) = ⊥
IsOfState (refusal.Foreign v) = ⊥
IsOfState other = Unit {0}
