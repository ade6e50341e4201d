use Rattle.pg_game.proofs.Common.{rules, subst, Graph, HasPredecessors, ◌≡◌, ℕ, ◌<◌, ◌≤◌, max_vertices, List, length, get_or, refl, ◌∙◌, sym, arith, Contains-get_or, Player}
use Rattle.pg_game.proofs.Common.{IsGame, AreSuccessors, ArePredecessors, row_at, AreRisingRows, AreSources, graph_of, AreParts, IsStored}
use Rattle.pg_game.proofs.game.Parts.{length_is, successors_are}
use Rattle.pg_game.proofs.Gathered.{begins}
use Rattle.pg_game.proofs.game.Game.of_forward.Goals as goal

module _ {ids ps : List ℕ} {os : List Player} {rows : List (List ℕ)} (a : AreParts ids ps os rows) where
  -- who has a row's number among his successors
  back_of : {w : ℕ} {us : List ℕ} → AreSources rows w us → ArePredecessors (graph_of ids ps os rows) w us
  back_of {w} {us} s = record {
    below = λ k l. (let h = begins rows (get_or us k 0) w ((s.exact (get_or us k 0)).0 (Contains-get_or us k 0 l)) in
        omega (arith, h, length_is a refl, a.successors));
    rising = s.rising;
    exact = λ u. rw (successors_are a refl u) (s.exact u);
  }

  row_of : IsGame (graph_of ids ps os rows) → (v : ℕ) → v < length rows → AreSuccessors (length rows) (row_at rows v)
  row_of game v l =
      let n : length (graph_of ids ps os rows) ≡ length rows = length_is a refl ∙ sym a.successors in
      subst (λ (k : ℕ). AreSuccessors k (row_at rows v)) n (rw (successors_are a refl v) at (game.successors v (omega (arith, l, n))))

  game_rows : IsGame (graph_of ids ps os rows) → length ids ≤ max_vertices → AreRisingRows rows
  game_rows game few = record {
    few = omega (arith, few, a.successors);
    below = λ v k l. (row_of game v l).below k;
    rising = λ v l. (row_of game v l).rising;
  }

-- sources of rows are the predecessors of the game that the rows are stored in
has_back : {ids ps : List ℕ} {os : List Player} {rows back : List (List ℕ)} → IsStored ids ps os rows →
    length back ≡ length rows → ((w : ℕ) → w < length rows → AreSources rows w (row_at back w)) → HasPredecessors (graph_of ids ps os rows) back
has_back stored size sources = record {
  size = omega (arith, size, stored.parts.successors, length_is stored.parts refl);
  each = λ v l. back_of stored.parts (sources v (omega (arith, l, length_is stored.parts refl, stored.parts.successors)));
}

pub reversed-requires : goal.reversed-requires
reversed-requires c = search (
  rules,
  game_rows,
  length_is,
  c.forward.invariant.parts,
  c.forward.invariant.game,
  c.forward.invariant.parts.successors,
  c.forward.invariant.limits.vertices,
)

pub invariant_of-result : goal.invariant_of-result
invariant_of-result c =
    subst (λ (g : Graph). HasPredecessors g c.in_ok-predecessors.predecessors) c.forward.view_is
    (has_back c.forward.invariant c.in_ok-predecessors.ensures.size c.in_ok-predecessors.ensures.sources)
