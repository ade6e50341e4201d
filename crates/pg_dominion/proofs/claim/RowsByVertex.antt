-- A claim's strategy graph, one row after another.
use Rattle.pg_dominion.proofs.Common.{◌≡◌, ℕ, ◌+◌, ◌<◌, Bool, true, false, length, take, refl, subst, ltb-true}
use Rattle.pg_dominion.proofs.Common.{Option, Some, None, IfSome, Player, same_player, Graph, IsGame, HasEdge}
use Rattle.pg_dominion.proofs.Common.{owner_of, edge_inside, same_is, ClaimRows, named, choice_in, AreRight, IsRightRow, StrategyGraph, IsStrategy, is_bad}
use Rattle.pg_dominion.specs.KeptEdges.{IsKeptWith}
use Rattle.pg_dominion.specs.Claim.{vertices, row_at}
use Rattle.pg_dominion.proofs.RowsByPlace.{named_more, distinct_rising, choice_at}
use Rattle.std.proofs.lemmas.List.Elements.{All-get_or, All-from_recursion}
use Rattle.pg_dominion.proofs.AgreeingRows.{other_is}
use Rattle.pg_dominion.proofs.claim.NoWayBack.{kept_in_row}
use Rattle.pg_dominion.proofs.Strategies.{strategy_next}

-- the choice of a right row is a vertex
pub choice_below : (g : Graph) (p : Player) (v : ℕ) (c : Option ℕ) → IsGame g → IsRightRow g p (v, c) → IfSome c (λ w. w < length g)
choice_below g p v None game a = tt
choice_below g p v (Some w) game a = go (same_player (owner_of g v) p) refl
  where
    go : (b : Bool) → same_player (owner_of g v) p ≡ b → w < length g
    go true s = let c = a.own (same_is (owner_of g v) p s) in
        ltb-true w (length g) (edge_inside g game v w a.vertex (subst (λ (x : ℕ). HasEdge g v x) (let e : c.0 ≡ w = cc c.1 in e) c.2))
    go false s = absurd (let z : Some w ≡ None = a.other (other_is (owner_of g v) p s) in cc z)

module _ (g : Graph) (p : Player) (rows : ClaimRows) (i : ℕ) (right : AreRight g p rows) (l : i < length rows) where
  abbrev row : ℕ × Option ℕ
  row = row_at rows i

  pub row_is_right : IsRightRow g p row
  row_is_right = All-get_or (IsRightRow g p) rows i (0, None) l (All-from_recursion (IsRightRow g p) rows right.each)

  -- it has the choice of its vertex
  row_choice : choice_in rows row.0 ≡ row.1
  row_choice = choice_at rows i (distinct_rising (vertices rows) right.rising) l

  -- it is kept with those before it
  pub row_is_kept : (k k' : StrategyGraph) → k.game.now ≡ g → IsKeptWith k row.0 (is_bad g p row.0) row.1 k'
      → IsStrategy k (named (take i rows)) (λ v. p) (choice_in rows) → IsStrategy k' (named (take (i + 1) rows)) (λ v. p) (choice_in rows)
  row_is_kept k k' same kept h = strategy_next (named (take i rows)) (λ v. p) k k' row.0 (is_bad g p row.0) row.1 (named (take (i + 1) rows))
      (choice_in rows) (choice_in rows) kept
      (λ x. named_more rows i x l) (λ x n. refl)
      (rw same (kept_in_row g p rows row.0 row.1 row_is_right row_choice)) (rw same refl) h
