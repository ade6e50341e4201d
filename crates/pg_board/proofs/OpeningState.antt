-- The state in which nothing is settled.
use Rattle.pg_board.proofs.Common.{rules, ◌≡◌, ℕ, true, false, List, [], ◌∷◌, length, sym, ltb-true, ◌∙◌, IsDistinct, Player, Graph, IsGame, In, all_vertices}
use Rattle.pg_board.proofs.Common.{no_vertices, Choices, KeptEdge, Attractor, IsRegion, edge_inside, some_edge, slice_get_within, and-true, choices}
use Rattle.pg_board.proofs.Common.{IsLawfulState, state_of, IsLawful}
use Rattle.std.specs.Prelude.{nat_eq, nat_lt}
use Rattle.pg_game.specs.Walk.{ClosedWalk}

pub none_distinct : IsDistinct nat_eq []
unfolding IsDistinct
none_distinct = tt

no_edge : (g : Graph) (p : Player) (s : Choices) (walk : List ℕ) → ClosedWalk (KeptEdge g p no_vertices s) walk → ⊥
no_edge g p s [] c = c
no_edge g p s (v ∷ []) c = let h : false ≡ true = c.0 in cc h
no_edge g p s (v ∷ w ∷ ws) c = let h : false ≡ true = c.0.0 in cc h

pub no_region : (g : Graph) (p : Player) (s : Choices) → IsRegion g p no_vertices s
no_region g p s = search (rules, no_edge)

module _ (g : Graph) (game : IsGame g) where
  pub attracts_none : (p : Player) (v : ℕ) → Attractor g p (all_vertices g) no_vertices v → In no_vertices v
  attracts_none p v a = a no_vertices (record {
    target = λ x i. i;
    own = λ x w i o e h. h;
    forced = λ x i o h. (let e = some_edge g game x (ltb-true x (length g) i) in h e.0 e.1 (edge_inside g game x e.0 (ltb-true x (length g) i) e.1));
  })

  opening : IsLawfulState g (state_of [])
  opening = record {
    regions = λ p. no_region g p (choices (state_of []));
    attracted = attracts_none;
    open_part = record {
      vertices = search (rules, and-true);
      successor = λ v i.
          let l = ltb-true v (length g) (sym (and-true (nat_lt v (length g))) ∙ i) in
          let e = some_edge g game v l in (e.0, e.1, and-true (nat_lt e.0 (length g)) ∙ edge_inside g game v e.0 l e.1);
    };
  }

  pub lawful_none : IsLawful g []
  lawful_none = search (rules, none_distinct, opening, slice_get_within)
