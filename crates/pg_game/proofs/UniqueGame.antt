-- A game is the only game of the specifications that describe it, and these are without fault.
use Rattle.pg_game.proofs.Common.{◌≡◌, ℕ, ◌<◌, ◌≤◌, List, [], ◌∷◌, length, map, get_or, refl, sym, ◌∙◌, ap, subst, arith, ◌↔◌, Some, None, slice_get, sum_by}
use Rattle.pg_game.proofs.Common.{Contains, IsStrictlyIncreasing, sum_by-cons, length-map, get_or-map, get_or_default, ext_get_or, Contains-get_or}
use Rattle.pg_game.proofs.Common.{IsPermutation-refl, slice_get-get_or, Spec, Graph, Vertex, IsGame, no_vertex, vertex_at, id_of, successors_of, IsGameOf}
use Rattle.pg_game.proofs.Common.{IsVertexOf, number_of, edges, different, first_fault, IsWithinLimits, ids_of}
use Rattle.std.proofs.lemmas.Option.{get_or_from_slice_get}
use Rattle.pg_game.proofs.Members.{Contains-nil}
use Rattle.pg_game.proofs.Different.{different_most}
use Rattle.pg_game.proofs.builder.GamesInOrder.{none_repeated}
use Rattle.pg_game.proofs.Sound.{sound_has_none, none_without, none_unknown}
use Rattle.pg_game.proofs.builder.FirstUnknown.{to_specified}
use Rattle.pg_game.proofs.adjacency.RisingLists.{number_is, same_rising}

-- what describes a vertex: its successors by their identifiers
abbrev pub spec_at : Graph → Vertex → Spec
spec_at g x = record { id = x.id; priority = x.priority; owner = x.owner; successors = map (λ w. id_of g w) x.successors }

abbrev pub specs_of : Graph → List Spec
specs_of g = map (λ x. spec_at g x) g

map-map : {X Y Z : Type 0} (f : X → Y) (h : Y → Z) (xs : List X) → map h (map f xs) ≡ map (λ x. h (f x)) xs
map-map f h [] = refl
map-map f h (x ∷ xs) = ap (λ zs. h (f x) ∷ zs) (map-map f h xs)

-- members of a list of identifiers, by the vertices
member_from : (f : ℕ → ℕ) (ws : List ℕ) (i : ℕ) → Contains (map f ws) i → (w : ℕ) × Contains ws w × (f w ≡ i)
member_from f ws i (k, l, e) =
    let n : k < length ws = omega (arith, l, length-map ws f) in
    (get_or ws k 0, Contains-get_or ws k 0 n, sym (get_or-map f ws k 0 i n) ∙ e)

member_to : {X : Type 0} (f : X → ℕ) (xs : List X) (x : X) → Contains xs x → Contains (map f xs) (f x)
member_to f xs x (k, l, e) = (k, omega (arith, l, length-map xs f), get_or-map f xs k x (f x) l ∙ ap f e)

module _ (g : Graph) (game : IsGame g) where
  ids_described : ids_of (specs_of g) ≡ map (λ (x : Vertex). x.id) g
  ids_described = map-map (λ (x : Vertex). spec_at g x) (λ (s : Spec). s.id) g

  -- the number of a vertex's identifier is the vertex
  pub described_number : (v : ℕ) → v < length g → number_of (specs_of g) (id_of g v) ≡ v
  described_number v l =
      let n : v < length (map (λ (x : Vertex). x.id) g) = omega (arith, l, length-map g (λ (x : Vertex). x.id)) in
      let is = number_is (specs_of g) (specs_of g) (map (λ (x : Vertex). x.id) g) (IsPermutation-refl (specs_of g)) ids_described game.ids v n in
      subst (λ i. number_of (specs_of g) i ≡ v) (get_or-map (λ (x : Vertex). x.id) g v no_vertex 0 l) is

  successor_below : (v w : ℕ) → v < length g → Contains (successors_of g v) w → w < length g
  successor_below v w l (k, m, e) = subst (λ u. u < length g) (get_or_default (successors_of g v) k 0 w m ∙ e) ((game.successors v l).below k m)

  described_vertex : (v : ℕ) → v < length g → IsVertexOf (specs_of g) (spec_at g (vertex_at g v)) (vertex_at g v)
  described_vertex v l = record {
    id = refl;
    priority = refl;
    owner = refl;
    rising = (game.successors v l).rising;
    successors = λ w. (
      λ m. (id_of g w, member_to (λ u. id_of g u) (successors_of g v) w m, sym (described_number w (successor_below v w l m))),
      λ (i, m, e). (let (u, n, f) = member_from (λ u. id_of g u) (successors_of g v) i m in
          let h : number_of (specs_of g) i ≡ u = subst (λ j. number_of (specs_of g) j ≡ u) f (described_number u (successor_below v u l n)) in
          subst (λ (x : ℕ). Contains (successors_of g v) x) (sym h ∙ sym e) n),
    );
  }

  spec_place : (s : Spec) → Contains (specs_of g) s → (v : ℕ) × (v < length g) × (spec_at g (vertex_at g v) ≡ s)
  spec_place s (v, l, e) =
      let n : v < length g = omega (arith, l, length-map g (λ (x : Vertex). spec_at g x)) in
      (v, n, sym (get_or-map (λ (x : Vertex). spec_at g x) g v no_vertex s n) ∙ e)

  -- a game is a game of the specifications that describe it
  pub described_game : IsGameOf (specs_of g) g
  described_game = record {
    size = sym (length-map g (λ (x : Vertex). spec_at g x));
    each = λ s m. (
        let (v, l, e) = spec_place s m in
        let x = vertex_at g v in
        let at : number_of (specs_of g) s.id ≡ v = subst (λ (t : Spec). number_of (specs_of g) t.id ≡ v) e (described_number v l) in
        let get = subst (λ k. slice_get g k ≡ Some x) (sym at) (slice_get-get_or g v no_vertex l) in
        (x, get, subst (λ (t : Spec). IsVertexOf (specs_of g) t x) e (described_vertex v l)));
  }

  spec_in : (v : ℕ) → v < length g → Contains (specs_of g) (spec_at g (vertex_at g v))
  spec_in v l =
      let f = λ (x : Vertex). spec_at g x in
      (v, omega (arith, l, length-map g f), get_or-map f g v no_vertex (spec_at g (vertex_at g v)) l)

  -- two vertices of one specification are the same
  same_vertex : (s : Spec) (x y : Vertex) → IsVertexOf (specs_of g) s x → IsVertexOf (specs_of g) s y → x ≡ y
  same_vertex s x y a b =
      let id : x.id ≡ y.id = a.id ∙ sym b.id in
      let priority : x.priority ≡ y.priority = a.priority ∙ sym b.priority in
      let owner : x.owner ≡ y.owner = a.owner ∙ sym b.owner in
      let same : (w : ℕ) → Contains x.successors w ↔ Contains y.successors w =
      λ w. (λ m. (b.successors w).1 ((a.successors w).0 m), λ m. (a.successors w).1 ((b.successors w).0 m)) in
      let successors : x.successors ≡ y.successors = same_rising x.successors y.successors a.rising b.rising same in
      λ i. record { id = id i; priority = priority i; owner = owner i; successors = successors i }

  -- and the only one
  pub one_described : (h : Graph) → IsGameOf (specs_of g) h → h ≡ g
  one_described h other =
      let n : length h ≡ length g = other.size ∙ length-map g (λ (x : Vertex). spec_at g x) in
      ext_get_or no_vertex h g n (λ v l.
      let m : v < length g = omega (arith, l, n) in
      let (y, get, is) = other.each (spec_at g (vertex_at g v)) (spec_in v m) in
      let at : slice_get h v ≡ Some y = subst (λ k. slice_get h k ≡ Some y) (described_number v m) get in
      get_or_from_slice_get h v y no_vertex at ∙ same_vertex (spec_at g (vertex_at g v)) y (vertex_at g v) is (described_vertex v m))

edges_few : (g : Graph) (xs : List Vertex) → edges (map (λ x. spec_at g x) xs) ≤ sum_by (λ (x : Vertex). length x.successors) xs
edges_few g [] = omega arith
edges_few g (x ∷ xs) =
    let a = sum_by-cons (λ (s : Spec). different s.successors) (spec_at g x) (map (λ y. spec_at g y) xs) in
    let b = sum_by-cons (λ (y : Vertex). length y.successors) x xs in
    let c = different_most (map (λ w. id_of g w) x.successors) in
    let d = length-map x.successors (λ w. id_of g w) in
    omega (arith, a, b, c, d, edges_few g xs)

-- the specifications that describe a game within the limits are without fault
pub described_sound : (g : Graph) → IsGame g → IsWithinLimits g → first_fault (specs_of g) ≡ None
described_sound g game limits =
    let n = length-map g (λ (x : Vertex). spec_at g x) in
    let up : IsStrictlyIncreasing (ids_of (specs_of g)) = subst (λ (xs : List ℕ). IsStrictlyIncreasing xs) (sym (ids_described g game)) game.ids in
    sound_has_none (specs_of g) record {
      nonempty = omega (arith, n, game.nonempty);
      vertices = omega (arith, n, limits.vertices);
      once = none_repeated [] (ids_of (specs_of g)) up (λ m x h k. absurd (Contains-nil m h));
      successors = none_without (specs_of g) (λ s m. (
          let (v, l, e) = spec_place g game s m in
          subst (λ (t : Spec). 0 < length t.successors) e (omega (arith, (game.successors v l).nonempty, length-map (successors_of g v) (λ w. id_of g w)))));
      edges_fit = omega (arith, edges_few g g, limits.edges);
      known = none_unknown (specs_of g) (specs_of g) (λ s m i k. (
          let (v, l, e) = spec_place g game s m in
          let j : Contains (map (λ w. id_of g w) (successors_of g v)) i = subst (λ (t : Spec). Contains t.successors i) (sym e) k in
          let (w, among, f) = member_from (λ u. id_of g u) (successors_of g v) i j in
          let h = member_to (λ (t : Spec). t.id) (specs_of g) (spec_at g (vertex_at g w)) (spec_in g game w (successor_below g game v w l among)) in
          to_specified (specs_of g) i (subst (λ x. Contains (ids_of (specs_of g)) x) f h)));
    }
