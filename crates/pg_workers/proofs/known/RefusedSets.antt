-- What the post of a known set is refused for names vertices of the game, and rows of the set.
use Rattle.std.proofs.Common.{if◌then◌else◌, Contains}
use Rattle.pg_workers.proofs.Common.{rules, arith, ℕ, ◌<◌, inl, inr, List, [], ◌∷◌, length, ap, subst, Player, Graph, KnownRows, ClaimRows}
use Rattle.pg_workers.proofs.Common.{known_rows, IsSolveFault, Refusal, state_of}
use Rattle.pg_game.proofs.Members.{Contains-one}
use Rattle.pg_text.proofs.Exact.{edge_below}
use Rattle.pg_dominion.specs.Claim.{HasShape, IsFirstOnBadWalk}
use Rattle.pg_dominion.specs.declared.claim.ClaimFault.TheVariants.{Shape, Cycle}
use Rattle.pg_finders.proofs.Common.{Walk, option_list, successors_of}
use Rattle.pg_board.proofs.Common.{HasEdge, In, IsGame, IsRightRow, KeptEdge, State, named, choice_in, is_same, named_right, own_or_other}
use Rattle.pg_finders.proofs.Sets.{not_same}
use Rattle.pg_board.proofs.Common.{owner_of, rest_of, same_player}
use Rattle.pg_board.proofs.RestIsGood.{in_rest, kept_rest}
use Rattle.pg_board.specs.declared.journal.Refusal.TheVariants as refusal
use Rattle.pg_workers.specs.declared.known.SolveFault.TheVariants as solving

-- a walk begins with an edge
first_edge : (Edge : ℕ → ℕ → Type 0) (v : ℕ) (ws : List ℕ) (end : ℕ) → Walk Edge v ws end → (w : ℕ) × Edge v w
first_edge Edge v [] end e = (end, e)
first_edge Edge v (w ∷ ws) end (e, more) = (w, e)

module _ (g : Graph) (game : IsGame g) (p : Player) (rows : ClaimRows) (shape : HasShape g p rows) where
  right : (v : ℕ) → In (named rows) v → IsRightRow g p (v, choice_in rows v)
  right v i = named_right g p rows v shape.right.each i

  pub named_below : (v : ℕ) → In (named rows) v → v < length g
  named_below v i = (right v i).vertex

  kept_below : (v w : ℕ) → In (named rows) v → Contains (if same_player (owner_of g v) p then option_list (choice_in rows v) else successors_of g v) w
      → w < length g
  kept_below v w i m = elim (own_or_other (owner_of g v) p) [
    | inl own ↦
        (let c = (right v i).own own in
        let only : Contains (option_list (choice_in rows v)) w = rw (is_same (owner_of g v) p own) at m in
        let one : Contains (c.0 ∷ []) w = rw c.1 at only in
        subst (λ (x : ℕ). x < length g) (Contains-one c.0 w one) (edge_below g game v c.0 (named_below v i) c.2))
    | inr other ↦
        (let edge : HasEdge g v w = rw (not_same (owner_of g v) p other) at m in
        edge_below g game v w (named_below v i) edge)
  ]

  pub open_below : (st : State) (v w : ℕ) → KeptEdge g p (named (rest_of st rows)) (choice_in (rest_of st rows)) v w → (v < length g) × (w < length g)
  open_below st v w e = let k = kept_rest g p st rows v w e in let n = (in_rest st rows v k.0).0 in (named_below v n, kept_below v w n k.1)

pub cycle_below : (g : Graph) (game : IsGame g) (p : Player) (rows : ClaimRows) (v : ℕ) → IsFirstOnBadWalk g p rows v → v < length g
cycle_below g game p rows v (shape, least) = search (rules, first_edge, named_below)

-- what the post of a player's known set was refused for
module _ (g : Graph) (game : IsGame g) (known : KnownRows) (p : Player) where
  abbrev rows_of : ClaimRows
  rows_of = known_rows g known p

  abbrev RefusedFor : Refusal → Type 0
  RefusedFor e = IsSolveFault g known (solving.Known p e)

  pub row_inside : (i : ℕ) → RefusedFor (refusal.Claim (Shape i)) → i < length rows_of
  row_inside i post = elim post.refused.refused.0 [
    | inl none ↦ absurd (let empty = ap length none.0 in omega (arith, post.refused.nonempty, empty))
    | inr first ↦ first.0
  ]

  pub cycle_inside : (v : ℕ) → RefusedFor (refusal.Claim (Cycle v)) → v < length g
  cycle_inside v post = cycle_below g game p rows_of v post.refused.refused.0

  pub lost_inside : (v : ℕ) → RefusedFor (refusal.Lost v) → v < length g
  lost_inside v post = let why = post.refused.refused in named_below g game p rows_of why.0.shape v why.1.has.0

  pub open_inside : (v w : ℕ) → RefusedFor (refusal.Open v w) → (v < length g) × (w < length g)
  open_inside v w post =
      let why = post.refused.refused in open_below g game p rows_of why.0.shape (state_of post.journal) v w why.2.edge.0
