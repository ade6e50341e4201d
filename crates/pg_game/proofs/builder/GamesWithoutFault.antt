-- The game that is made of specifications without fault.
use Rattle.pg_game.proofs.Common.{◌↔◌, slice_index, ◌≡◌, ℕ, ◌<◌, ◌≤◌, true, List, [], ◌∷◌, length, map, get_or, refl, sym, ◌∙◌, ap, subst, arith, rules, All, Some, slice_get}
use Rattle.pg_game.proofs.Common.{sum_by, Contains, IsStrictlyIncreasing, IsPermutation, length-map, get_or-map, get_or_default, Contains-get_or}
use Rattle.pg_game.proofs.Common.{length_permutation, Contains-permutation, IsPermutation-sym, IsPermutation-map, All-permutation, sum_by-IsPermutation}
use Rattle.pg_game.proofs.Common.{sum_by-cons, slice_get-get_or, Player, Even, Spec, AreNumbers, IsSpecified, IsGameOf, IsVertexOf, number_of, edges, different}
use Rattle.pg_game.proofs.Common.{ids_of, priorities_of, owners_of, row_at, size_of, IsWithinLimits, Graph, Vertex, IsGame}
use Rattle.pg_game.proofs.Common.{AreSuccessors, no_vertex, vertex_at, priority_of, owner_of, successors_of, graph_of, AreParts, IsStored}
use Rattle.pg_game.proofs.Sound.{IsSound, each_has, each_known}
use Rattle.pg_game.proofs.adjacency.RisingLists.{number_is}
use Rattle.pg_game.proofs.builder.FirstUnknown.{from_specified}
use Rattle.pg_game.proofs.game.Parts as part

-- rising, no more than there are different successors, and exactly the places of their identifiers
pub record ArePlaces (ids successors places : List ℕ) : Type 0 where
  pub rising : IsStrictlyIncreasing places
  pub size : length places ≤ different successors
  pub members : (w : ℕ) → Contains places w ↔ ((w < length ids) × Contains successors (slice_index ids w))

-- specifications by rising identifier, and their rows
pub record IsLaid (specs sorted : List Spec) (ids : List ℕ) (rows : List (List ℕ)) : Type 0 where
  pub sound : IsSound specs
  pub numbers : All AreNumbers specs
  pub moved : IsPermutation specs sorted
  pub ids_are : ids_of sorted ≡ ids
  pub rising : IsStrictlyIncreasing ids
  pub size : length rows ≡ length sorted
  pub edges_are : size_of rows ≤ edges sorted
  pub each : (v : ℕ) (d : Spec) → v < length sorted → ArePlaces ids (get_or sorted v d).successors (row_at rows v)

-- the value for a number that is no place
abbrev pub no_spec : Spec
no_spec = record { id = 0; priority = 0; owner = Even; successors = [] }

sum-map : (g : Graph) → sum_by (λ (x : Vertex). length x.successors) g ≡ size_of (map (λ (x : Vertex). x.successors) g)
sum-map [] = refl
sum-map (x ∷ g) = search (rules, sum-map g, sum_by-cons, x.successors)

module _ {specs sorted : List Spec} {ids : List ℕ} {rows : List (List ℕ)} (laid : IsLaid specs sorted ids rows) where
  abbrev ps : List ℕ
  ps = priorities_of sorted

  abbrev os : List Player
  os = owners_of sorted

  abbrev g : Graph
  g = graph_of ids ps os rows

  length_ids : length ids ≡ length sorted
  length_ids = sym (ap (λ (xs : List ℕ). length xs) laid.ids_are) ∙ length-map sorted (λ (s : Spec). s.id)

  parts : AreParts ids ps os rows
  parts = search (rules, length-map, length_ids, laid.size)

  length_g : length g ≡ length ids
  length_g = part.length_is parts refl

  row_is : (v : ℕ) → successors_of g v ≡ row_at rows v
  row_is v = part.successors_are parts refl v

  length_specs : length sorted ≡ length specs
  length_specs = length_permutation specs sorted laid.moved

  known_place : (i : ℕ) → IsSpecified specs i ≡ true → (w : ℕ) × (w < length ids) × (get_or ids w 0 ≡ i)
  known_place i t =
      let moved = IsPermutation-map (λ (s : Spec). s.id) specs sorted laid.moved in
      let n = subst (λ (xs : List ℕ). Contains xs i) laid.ids_are (Contains-permutation (ids_of specs) (ids_of sorted) i moved (from_specified specs i t)) in
      (n.0, n.1, get_or_default ids n.0 0 i n.1 ∙ n.2)

  number_at : (v : ℕ) → v < length ids → number_of specs (get_or ids v 0) ≡ v
  number_at v l = number_is specs sorted ids laid.moved laid.ids_are laid.rising v l

  sorted_in : (s : Spec) → Contains sorted s → Contains specs s
  sorted_in s m = Contains-permutation sorted specs s (IsPermutation-sym specs sorted laid.moved) m

  -- a successor's place in the row of its specification
  place_in : (v : ℕ) (s : Spec) → v < length sorted → get_or sorted v s ≡ s → (i : ℕ) → Contains s.successors i
      → (w : ℕ) × (get_or ids w 0 ≡ i) × (number_of specs i ≡ w) × Contains (row_at rows v) w
  place_in v s l e i m =
      let places : ArePlaces ids s.successors (row_at rows v) = subst (λ (t : Spec). ArePlaces ids t.successors (row_at rows v)) e (laid.each v s l) in
      let among : Contains specs s = sorted_in s (v, l, e) in
      let k = known_place i (each_known specs specs laid.sound.known s among i m) in
      let n : number_of specs i ≡ k.0 = subst (λ (j : ℕ). number_of specs j ≡ k.0) k.2 (number_at k.0 k.1) in
      (k.0, k.2, n, (places.members k.0).1 (k.1, subst (λ (j : ℕ). Contains s.successors j) (sym k.2) m))

  row_game : (v : ℕ) → v < length sorted → AreSuccessors (length ids) (row_at rows v)
  row_game v l =
      let s = get_or sorted v no_spec in
      let e : get_or sorted v s ≡ s = get_or_default sorted v s no_spec l in
      let places = laid.each v no_spec l in
      let has = each_has specs laid.sound.successors s (sorted_in s (v, l, e)) in
      let p = place_in v s l e (get_or s.successors 0 0) (Contains-get_or s.successors 0 0 has) in
      record {
        nonempty = let m = p.3 in let h = m.1 in omega arith;
        below = λ k h. ((places.members (get_or (row_at rows v) k 0)).0 (Contains-get_or (row_at rows v) k 0 h)).0;
        rising = places.rising;
      }

  pub made_game : IsGame g
  made_game = search (rules, length_g, length_ids, length_specs, parts, row_is, row_game, laid.sound.nonempty, part.ids_are, laid.rising)

  numbers_at : (v : ℕ) → v < length sorted → AreNumbers (get_or sorted v no_spec)
  numbers_at v l = All-permutation AreNumbers specs sorted laid.moved laid.numbers v no_spec l

  id_in : (v : ℕ) (d : Spec) → v < length sorted → get_or ids v 0 ≡ (get_or sorted v d).id
  id_in v d l = sym (ap (λ (xs : List ℕ). get_or xs v 0) laid.ids_are) ∙ get_or-map (λ (s : Spec). s.id) sorted v d 0 l

  priority_in : (v : ℕ) (d : Spec) → v < length sorted → priority_of g v ≡ (get_or sorted v d).priority
  priority_in v d l = part.priority_is parts refl v ∙ get_or-map (λ (s : Spec). s.priority) sorted v d 0 l

  owner_in : (v : ℕ) (d : Spec) → v < length sorted → owner_of g v ≡ (get_or sorted v d).owner
  owner_in v d l = part.owner_is parts refl v ∙ get_or-map (λ (s : Spec). s.owner) sorted v d Even l

  made_limits : IsWithinLimits g
  made_limits = record {
    vertices = let h = laid.sound.vertices in omega (arith, h, length_g, length_ids, length_specs);
    edges =
        let e = sum_by-IsPermutation (λ (s : Spec). different s.successors) specs sorted laid.moved in
        omega (arith, laid.sound.edges_fit, e, sum-map g ∙ ap size_of (part.rows_are parts refl), laid.edges_are);
    ids = λ v l. (let k : v < length sorted = omega (arith, l, length_g, length_ids) in
        omega (arith, (numbers_at v k).id, part.id_is parts refl v, id_in v no_spec k));
    numbers = λ v l. (let k : v < length sorted = omega (arith, l, length_g, length_ids) in
        omega (arith, (numbers_at v k).priority, priority_in v no_spec k));
  }

  vertex_made : (v : ℕ) (s : Spec) → v < length sorted → get_or sorted v s ≡ s → IsVertexOf specs s (vertex_at g v)
  vertex_made v s l e =
      let places : ArePlaces ids s.successors (row_at rows v) = subst (λ (t : Spec). ArePlaces ids t.successors (row_at rows v)) e (laid.each v s l) in
      record {
        id = part.id_is parts refl v ∙ (id_in v s l ∙ ap (λ (t : Spec). t.id) e);
        priority = priority_in v s l ∙ ap (λ (t : Spec). t.priority) e;
        owner = owner_in v s l ∙ ap (λ (t : Spec). t.owner) e;
        rising = rw (row_is v) places.rising;
        successors = λ w. rw (row_is v) (
          λ m. (let h = (places.members w).0 m in (get_or ids w 0, h.1, sym (number_at w h.0))),
          λ (i, m, q). (let p = place_in v s l e i m in subst (λ (u : ℕ). Contains (row_at rows v) u) (sym p.2 ∙ sym q) p.3),
        );
      }

  pub made_of : IsGameOf specs g
  made_of = record {
    size = length_g ∙ (length_ids ∙ length_specs);
    each = λ s m. (
        let n = Contains-permutation specs sorted s laid.moved m in
        let e : get_or ids n.0 0 ≡ s.id = id_in n.0 s n.1 ∙ ap (λ (t : Spec). t.id) n.2 in
        let at : number_of specs s.id ≡ n.0 = subst (λ (j : ℕ). number_of specs j ≡ n.0) e (number_at n.0 (omega (arith, n.1, length_ids))) in
        let get : slice_get g n.0 ≡ Some (vertex_at g n.0) = slice_get-get_or g n.0 no_vertex (omega (arith, n.1, length_ids, length_g)) in
        (vertex_at g n.0, subst (λ k. slice_get g k ≡ Some (vertex_at g n.0)) (sym at) get, vertex_made n.0 s n.1 n.2));
  }

  pub made_stored : IsStored ids ps os rows
  made_stored = record { parts = parts; game = made_game; limits = made_limits }
