-- What a post through a share adds to its amount.
use Rattle.pg_board.proofs.Common.{◌≡◌, ℕ, ◌+◌, ◌≤◌, length, ap, subst, ◌∙◌, arith, sum_by_push, Entry, Graph, number_settled, BoardRecord, Posted}
use Rattle.std.specs.Prelude.{Ok}
use Rattle.pg_game.specs.Specification.{max_vertices}
use Rattle.pg_dominion.specs.declared.claim.Claim.{Claim}
use Rattle.pg_board.specs.Board.{IsLawfulBoard}
use Rattle.pg_board.specs.Post.{IsPostAnswer}
use Rattle.pg_board.proofs.Numbers.{number_within}

-- the amount stays within the limit
pub amount_fits : {old new : BoardRecord} {worker : ℕ} {claim : Claim} {posted : Posted} (amount : ℕ) → IsLawfulBoard old → amount ≤ number_settled old.journal
    → IsPostAnswer old new worker claim (Ok posted) → amount + posted.settled ≤ max_vertices
amount_fits {old} {new} amount board le h =
    let added = h.posted.1 in
    let sum : number_settled new.journal ≡ number_settled old.journal + length added.entry.rows =
    ap number_settled added.journal ∙ sum_by_push (λ (x : Entry). length x.rows) old.journal added.entry in
    let within : number_settled new.journal ≤ length old.graph =
    subst (λ (g : Graph). number_settled new.journal ≤ length g) h.game (number_within new.graph new.journal h.lawful) in
    let settled = added.settled in
    let most = board.limits.vertices in
    omega (arith, le, sum, within, settled, most)
