-- One more of each part is one more specification.
use Rattle.pg_game.proofs.Common.{◌≡◌, ℕ, List, [], ◌∷◌, ◌++◌, map, refl, ap, ◌∙◌, arith, length-append, rules, map_push, Player, Graph, Vertex, graph_of}
use Rattle.pg_game.proofs.Common.{AreParts, spec_from, specs_from}
use Rattle.pg_game.proofs.game.Parts.{tails}

abbrev pub vertex_from : ℕ → ℕ → Player → List ℕ → Vertex
vertex_from i p o ws = record { id = i; priority = p; owner = o; successors = ws }

graph_more : (ids ps : List ℕ) (os : List Player) (rows : List (List ℕ)) → AreParts ids ps os rows → (i p : ℕ) (o : Player) (ws : List ℕ) →
    graph_of (ids ++ i ∷ []) (ps ++ p ∷ []) (os ++ o ∷ []) (rows ++ ws ∷ []) ≡ graph_of ids ps os rows ++ vertex_from i p o ws ∷ []
graph_more [] [] [] [] a i p o ws = refl
graph_more [] (q ∷ ps) os rows a i p o ws = absurd (let h = a.priorities in omega arith)
graph_more [] [] (q ∷ os) rows a i p o ws = absurd (let h = a.owners in omega arith)
graph_more [] [] [] (r ∷ rows) a i p o ws = absurd (let h = a.successors in omega arith)
graph_more (j ∷ ids) [] os rows a i p o ws = absurd (let h = a.priorities in omega arith)
graph_more (j ∷ ids) (q ∷ ps) [] rows a i p o ws = absurd (let h = a.owners in omega arith)
graph_more (j ∷ ids) (q ∷ ps) (u ∷ os) [] a i p o ws = absurd (let h = a.successors in omega arith)
graph_more (j ∷ ids) (q ∷ ps) (u ∷ os) (r ∷ rows) a i p o ws = ap (λ (g : Graph). vertex_from j q u r ∷ g) (graph_more ids ps os rows (tails a) i p o ws)

module _ {ids ps : List ℕ} {os : List Player} {rows : List (List ℕ)} (a : AreParts ids ps os rows) (i p : ℕ) (o : Player) (ws : List ℕ) where
  pub specs_more : specs_from (ids ++ i ∷ []) (ps ++ p ∷ []) (os ++ o ∷ []) (rows ++ ws ∷ [])
      ≡ specs_from ids ps os rows ++ spec_from (vertex_from i p o ws) ∷ []
  specs_more = ap (λ (g : Graph). map spec_from g) (graph_more ids ps os rows a i p o ws) ∙ map_push spec_from (graph_of ids ps os rows) (vertex_from i p o ws)

  pub parts_more : AreParts (ids ++ i ∷ []) (ps ++ p ∷ []) (os ++ o ∷ []) (rows ++ ws ∷ [])
  parts_more = search (rules, length-append, a.priorities, a.owners, a.successors)
