-- The vertices of a game's parts.
use Rattle.pg_game.proofs.Common.{◌≡◌, ℕ, zero, suc, List, [], ◌∷◌, length, get_or, refl, sym, ◌∙◌, ap, arith, map, rules, length-map, get_or-map, ext_get_or}
use Rattle.pg_game.proofs.Common.{Player, Even, Graph, Vertex, vertex_at, no_vertex, id_of, priority_of, owner_of, successors_of, graph_of, AreParts}

-- the parts without the first of each
pub tails : {i p : ℕ} {o : Player} {ws : List ℕ} {ids ps : List ℕ} {os : List Player} {rows : List (List ℕ)} →
    AreParts (i ∷ ids) (p ∷ ps) (o ∷ os) (ws ∷ rows) → AreParts ids ps os rows
tails a = search (rules, a.successors, a.priorities, a.owners)

length-graph_of : (ids ps : List ℕ) (os : List Player) (rows : List (List ℕ)) → AreParts ids ps os rows → length (graph_of ids ps os rows) ≡ length ids
length-graph_of [] ps os rows a = refl
length-graph_of (i ∷ ids) [] os rows a = absurd (let h = a.priorities in omega arith)
length-graph_of (i ∷ ids) (p ∷ ps) [] rows a = absurd (let h = a.owners in omega arith)
length-graph_of (i ∷ ids) (p ∷ ps) (o ∷ os) [] a = absurd (let h = a.successors in omega arith)
length-graph_of (i ∷ ids) (p ∷ ps) (o ∷ os) (ws ∷ rows) a = let h = length-graph_of ids ps os rows (tails a) in omega arith

-- each vertex, and the value for one past the end
part_at : (ids ps : List ℕ) (os : List Player) (rows : List (List ℕ)) → AreParts ids ps os rows → (v : ℕ) →
    vertex_at (graph_of ids ps os rows) v ≡ record { id = get_or ids v 0; priority = get_or ps v 0; owner = get_or os v Even; successors = get_or rows v [] }
part_at [] [] [] [] a v = refl
part_at [] (p ∷ ps) os rows a v = absurd (let h = a.priorities in omega arith)
part_at [] [] (o ∷ os) rows a v = absurd (let h = a.owners in omega arith)
part_at [] [] [] (ws ∷ rows) a v = absurd (let h = a.successors in omega arith)
part_at (i ∷ ids) [] os rows a v = absurd (let h = a.priorities in omega arith)
part_at (i ∷ ids) (p ∷ ps) [] rows a v = absurd (let h = a.owners in omega arith)
part_at (i ∷ ids) (p ∷ ps) (o ∷ os) [] a v = absurd (let h = a.successors in omega arith)
part_at (i ∷ ids) (p ∷ ps) (o ∷ os) (ws ∷ rows) a zero = refl
part_at (i ∷ ids) (p ∷ ps) (o ∷ os) (ws ∷ rows) a (suc v) = part_at ids ps os rows (tails a) v

module _ {ids ps : List ℕ} {os : List Player} {rows : List (List ℕ)} (a : AreParts ids ps os rows) {g : Graph} (is : graph_of ids ps os rows ≡ g) where
  pub length_is : length g ≡ length ids
  length_is = sym (ap (λ (h : Graph). length h) is) ∙ length-graph_of ids ps os rows a

  vertex_is : (v : ℕ) → vertex_at g v ≡ record { id = get_or ids v 0; priority = get_or ps v 0; owner = get_or os v Even; successors = get_or rows v [] }
  vertex_is v = sym (ap (λ (h : Graph). vertex_at h v) is) ∙ part_at ids ps os rows a v

  pub id_is : (v : ℕ) → id_of g v ≡ get_or ids v 0
  id_is v = ap (λ (x : Vertex). x.id) (vertex_is v)

  pub priority_is : (v : ℕ) → priority_of g v ≡ get_or ps v 0
  priority_is v = ap (λ (x : Vertex). x.priority) (vertex_is v)

  pub owner_is : (v : ℕ) → owner_of g v ≡ get_or os v Even
  owner_is v = ap (λ (x : Vertex). x.owner) (vertex_is v)

  pub successors_are : (v : ℕ) → successors_of g v ≡ get_or rows v []
  successors_are v = ap (λ (x : Vertex). x.successors) (vertex_is v)

  -- a part of each vertex, in order
  part_of : {X : Type 0} (f : Vertex → X) (xs : List X) (d : X) → length xs ≡ length ids → ((v : ℕ) → f (vertex_at g v) ≡ get_or xs v d) → map f g ≡ xs
  part_of f xs d n at =
      let m = length-map g f in
      ext_get_or d (map f g) xs (m ∙ (length_is ∙ sym n)) (λ v l. get_or-map f g v no_vertex d (omega (arith, l, m)) ∙ at v)

  pub ids_are : map (λ (x : Vertex). x.id) g ≡ ids
  ids_are = part_of (λ x. x.id) ids 0 refl id_is

  pub priorities_are : map (λ (x : Vertex). x.priority) g ≡ ps
  priorities_are = part_of (λ x. x.priority) ps 0 a.priorities priority_is

  pub owners_are : map (λ (x : Vertex). x.owner) g ≡ os
  owners_are = part_of (λ x. x.owner) os Even a.owners owner_is

  pub rows_are : map (λ (x : Vertex). x.successors) g ≡ rows
  rows_are = part_of (λ x. x.successors) rows [] a.successors successors_are
