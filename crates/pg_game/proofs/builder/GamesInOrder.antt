-- Rows by places, and the game of specifications by rising identifier.
use Rattle.pg_game.proofs.Common.{◌≡◌, ℕ, suc, ◌+◌, ◌<◌, false, inl, inr, List, [], ◌∷◌, length, map, get_or, refl, sym, ◌∙◌, ap, subst, arith, All, None}
use Rattle.pg_game.proofs.Common.{◌==◌, ◌↔◌, Contains, list_any, IsStrictlyIncreasing, IsPermutation, false_from_ne_true, length-map, get_or-map, ext_get_or}
use Rattle.pg_game.proofs.Common.{Contains-get_or, sum_by-cons, Spec, IsGame, AreNumbers, IsGameOf, first_fault, first_repeated, edges, different}
use Rattle.pg_game.proofs.Common.{priorities_of}
use Rattle.pg_game.proofs.Common.{owners_of, ids_of, successor_lists, row_at, size_of, graph_of, IsStored, AreAllPlaces, AreResolvedSpecs}
use Rattle.pg_game.proofs.Members.{Contains-head, Contains-tail, Contains-cons}
use Rattle.pg_game.proofs.Gathered.{any_from}
use Rattle.pg_game.proofs.Different.{rising_tail, below_first, different_is}
use Rattle.pg_game.proofs.identifiers.Places.{rises, same_place}
use Rattle.pg_game.proofs.Sound.{sound_is}
use Rattle.pg_game.proofs.builder.GamesWithoutFault.{ArePlaces, no_spec, IsLaid, made_game, made_of, made_stored}

module _ {ids : List ℕ} (up : IsStrictlyIncreasing ids) {successors places : List ℕ} (a : AreAllPlaces ids successors places) where
  abbrev name : ℕ → ℕ
  name w = get_or ids w 0

  named_rise : IsStrictlyIncreasing (map name places)
  named_rise k l =
      let n = length-map places name in
      let i : k < length places = omega (arith, l, n) in
      let j : k + 1 < length places = omega (arith, l, n) in
      let h = rises ids up (get_or places k 0) (get_or places (k + 1) 0) (a.rising k j)
      (a.from (get_or places (k + 1) 0) (Contains-get_or places (k + 1) 0 j)).0 in
      omega (arith, get_or-map name places k 0 0 i, get_or-map name places (k + 1) 0 0 j, h)

  same_named : (x : ℕ) → Contains successors x ↔ Contains (map name places) x
  same_named x = (
    λ m. (let (w, p, e) = a.all x m in (p.0, omega (arith, p.1, length-map places name), get_or-map name places p.0 w x p.1 ∙ (ap name p.2 ∙ e))),
    λ m. (let l : m.0 < length places = omega (arith, m.1, length-map places name) in
        let h = a.from (get_or places m.0 0) (Contains-get_or places m.0 0 l) in
        subst (λ (i : ℕ). Contains successors i) (sym (get_or-map name places m.0 0 x l) ∙ m.2) h.1),
  )

  pub different_resolved : different successors ≡ length places
  different_resolved = different_is successors (map name places) named_rise same_named ∙ length-map places name

  pub are_resolved : ArePlaces ids successors places
  are_resolved = record {
    rising = a.rising;
    size = let h = different_resolved in omega (arith, h);
    members = λ w. (
      λ m. a.from w m,
      λ h. (let p = a.all (get_or ids w 0) h.1 in subst (λ (v : ℕ). Contains places v) (same_place ids up p.0 w (a.from p.0 p.1).0 h.0 p.2) p.1),
    );
  }

-- numbers that rise above those before are not repeated
pub none_repeated : (earlier xs : List ℕ) → IsStrictlyIncreasing xs → ((e x : ℕ) → Contains earlier e → Contains xs x → e < x)
    → first_repeated earlier xs ≡ None
none_repeated earlier [] up less = refl
none_repeated earlier (x ∷ xs) up less =
    let f : list_any (λ m. m == x) earlier ≡ false =
    false_from_ne_true _ (λ t. let h = less x x (any_from earlier x t) (Contains-head x xs) in omega (arith, h)) in
    rw f (none_repeated (x ∷ earlier) xs (rising_tail x xs up) (λ e y m n. elim (Contains-cons x e earlier m) [
      | inl q ↦ (let h = below_first x xs up y n in omega (arith, h, q))
      | inr k ↦ less e y k (Contains-tail x y xs n)
    ]))

-- as many edges as there are places
edges-resolved : (specs : List Spec) (resolved : List (List ℕ)) → length resolved ≡ length specs →
    ((v : ℕ) (d : Spec) → v < length specs → different (get_or specs v d).successors ≡ length (row_at resolved v)) → edges specs ≡ size_of resolved
edges-resolved [] [] e same = refl
edges-resolved [] (r ∷ resolved) e same = absurd (omega arith)
edges-resolved (s ∷ specs) [] e same = absurd (omega arith)
edges-resolved (s ∷ specs) (r ∷ resolved) e same =
    let a = sum_by-cons (λ (t : Spec). different t.successors) s specs in
    let b = sum_by-cons (λ (ws : List ℕ). length ws) r resolved in
    let c = same 0 s (omega arith) in
    let d = edges-resolved specs resolved (omega arith) (λ v d l. same (suc v) d (omega arith)) in
    omega (arith, a, b, c, d)

-- specifications by rising identifier, and the same with places for successors
module _ {specs sorted resolved : List Spec} {ids : List ℕ} (sound : first_fault specs ≡ None) (numbers : All AreNumbers specs)
    (moved : IsPermutation specs sorted) (are : ids_of sorted ≡ ids) (up : IsStrictlyIncreasing ids) (p : AreResolvedSpecs ids sorted resolved) where
  row_is : (v : ℕ) (d : Spec) → v < length sorted → row_at (successor_lists resolved) v ≡ (get_or resolved v d).successors
  row_is v d l = get_or-map (λ (s : Spec). s.successors) resolved v d [] (omega (arith, l, p.size))

  places_at : (v : ℕ) (d : Spec) → v < length sorted → AreAllPlaces ids (get_or sorted v d).successors (row_at (successor_lists resolved) v)
  places_at v d l = rw (row_is v d l) (p.each v d l).successors

  size : length (successor_lists resolved) ≡ length sorted
  size = length-map resolved (λ (s : Spec). s.successors) ∙ p.size

  laid : IsLaid specs sorted ids (successor_lists resolved)
  laid = record {
    sound = sound_is specs sound;
    numbers = numbers;
    moved = moved;
    ids_are = are;
    rising = up;
    size = size;
    edges_are =
        let e = edges-resolved sorted (successor_lists resolved) size (λ v d l. different_resolved up (places_at v d l)) in
        omega (arith, e);
    each = λ v d l. are_resolved up (places_at v d l);
  }

  part_same : {X : Type 0} (f : Spec → X) (d : Spec) → ((v : ℕ) → v < length sorted → f (get_or resolved v d) ≡ f (get_or sorted v d))
      → map f sorted ≡ map f resolved
  part_same f d each =
      ext_get_or (f d) (map f sorted) (map f resolved) (length-map sorted f ∙ (sym p.size ∙ sym (length-map resolved f))) (λ v l.
      let k : v < length sorted = omega (arith, l, length-map sorted f) in
      get_or-map f sorted v d (f d) k ∙ (sym (each v k) ∙ sym (get_or-map f resolved v d (f d) (omega (arith, k, p.size)))))

  priorities_same : priorities_of sorted ≡ priorities_of resolved
  priorities_same = part_same (λ s. s.priority) no_spec (λ v l. (p.each v no_spec l).priority)

  owners_same : owners_of sorted ≡ owners_of resolved
  owners_same = part_same (λ s. s.owner) no_spec (λ v l. (p.each v no_spec l).owner)

  pub resolved_stored : IsStored ids (priorities_of resolved) (owners_of resolved) (successor_lists resolved)
  resolved_stored = rw (← priorities_same, ← owners_same) (made_stored laid)

  pub resolved_game : IsGame (graph_of ids (priorities_of resolved) (owners_of resolved) (successor_lists resolved))
      × IsGameOf specs (graph_of ids (priorities_of resolved) (owners_of resolved) (successor_lists resolved))
  resolved_game = rw (← priorities_same, ← owners_same) (made_game laid, made_of laid)
