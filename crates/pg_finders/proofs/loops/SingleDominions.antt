-- The vertices that are dominions alone, as a set; together they are a good claim.
use Rattle.pg_finders.proofs.Common.{◌≡◌, ℕ, zero, suc, ◌<◌, Bool, true, false, ◌&&◌, ◌||◌, not, inl, inr, List, [], ◌∷◌, length, refl, sym, ◌∙◌, subst}
use Rattle.pg_finders.proofs.Common.{ap, arith, ltb-true, rules, Some, ◌==◌, Contains, eqb-true, eq-eqb, and_parts, and_from, cases_Bool, or_right, Player}
use Rattle.pg_finders.proofs.Common.{of_parity, same_player, Graph, HasEdge, owner_of, priority_of, successors_of, VertexSet, In, members, KeptEdge, Walk}
use Rattle.pg_finders.proofs.Common.{ClosedWalk, greatest_priority, Contains-head, Contains-tail, Contains-cons, Contains-nil, own_or_other, same_is, is_same}
use Rattle.pg_finders.proofs.Common.{ClaimRows, named, choice_in, IsGoodIn, IsLoop, own_choices, rows_below, WinsOn, loops, itself, or_left}
use Rattle.std.proofs.Common.{◌↔◌}
use Rattle.std.specs.List.{list_any}
use Rattle.std.proofs.lemmas.Bool.{not_from_false}
use Rattle.pg_finders.specs.Part.{IsPart}
use Rattle.pg_finders.specs.private.Singles.{leads_away, leads_to_itself}
use Rattle.pg_finders.proofs.Sets.{not_both, minus}
use Rattle.pg_finders.proofs.ClosedWalks.{Among, closed_inside, greatest_reached}
use Rattle.pg_finders.proofs.SolvedSubgames.{kept_leads, choice_leads}
use Rattle.pg_finders.proofs.Rows.{rows_of_below}
use Rattle.pg_finders.proofs.GoodClaims.{rows_named, good_rows}

pub any_some : (t : ℕ → Bool) (ws : List ℕ) → list_any t ws ≡ true → (w : ℕ) × Contains ws w × (t w ≡ true)
any_some t [] e = absurd (cc e)
any_some t (x ∷ xs) e = elim (cases_Bool (t x)) [
  | inl y ↦ (x, Contains-head x xs, y)
  | inr n ↦ (let r = any_some t xs (rw n at e) in (r.0, Contains-tail x r.0 xs r.1, r.2))
]

pub some_any : (t : ℕ → Bool) (ws : List ℕ) (w : ℕ) → Contains ws w → t w ≡ true → list_any t ws ≡ true
some_any t [] w m y = absurd (Contains-nil w m)
some_any t (x ∷ xs) w m y = elim (Contains-cons x w xs m) [
  | inl q ↦ (let z : t x ≡ true = rw q y in rw z refl)
  | inr k ↦ or_right (t x) (list_any t xs) (some_any t xs w k y)
]

or_not : (a b : Bool) → (a || not b) ≡ true → a ≡ false → b ≡ false
or_not true b e f = absurd (cc f)
or_not false true e f = absurd (cc e)
or_not false false e f = refl

module _ (g : Graph) (U : VertexSet) (p : Player) (v : ℕ) where
  -- no successor in the set is another vertex
  pub stays_from_test : leads_away g U v ≡ false → (w : ℕ) → HasEdge g v w → In U w → w ≡ v
  stays_from_test n w m i = elim (cases_Bool (w == v)) [
    | inl y ↦ eqb-true w v y
    | inr z ↦ absurd (let a = some_any (λ x. U x && not (x == v)) (successors_of g v) w m (minus i z) in cc (a, n))
  ]

  pub loop_from_test : loops g U p v ≡ true → IsLoop g U p v
  loop_from_test y = search (rules, and_parts, same_is, any_some, eqb-true, stays_from_test, or_not, cases_Bool)

  pub test_from_loop : IsLoop g U p v → loops g U p v ≡ true
  test_from_loop h =
      and_from (U v && same_player (of_parity (priority_of g v)) p && leads_to_itself g v) (same_player (owner_of g v) p || not (leads_away g U v))
      (and_from (U v && same_player (of_parity (priority_of g v)) p) (leads_to_itself g v)
      (and_from (U v) (same_player (of_parity (priority_of g v)) p) h.inside (is_same (of_parity (priority_of g v)) p h.parity))
      (some_any (λ w. w == v) (successors_of g v) v h.itself (eq-eqb v v refl)))
      (elim (own_or_other (owner_of g v) p) [
        | inl o ↦ or_left (same_player (owner_of g v) p) (not (leads_away g U v)) (is_same (owner_of g v) p o)
        | inr o ↦ or_right (same_player (owner_of g v) p) (not (leads_away g U v))
            (not_from_false (leads_away g U v) (search (rules, cases_Bool, any_some, and_parts, eq-eqb)))
      ])

-- where each edge leads back to its beginning, a closed walk has one vertex
one_vertex : (E : ℕ → ℕ → Type 0) → ((v w : ℕ) → E v w → w ≡ v) → (v : ℕ) (ws : List ℕ) (end : ℕ) → Walk E v ws end → (u : ℕ) → Contains (v ∷ ws) u → u ≡ v
one_vertex E f v [] end e u m = elim (Contains-cons v u [] m) [ inl q ↦ sym q | inr k ↦ absurd (Contains-nil u k) ]
one_vertex E f v (w ∷ ws) end e u m = elim (Contains-cons v u (w ∷ ws) m) [
  | inl q ↦ sym q
  | inr k ↦ one_vertex E f w ws end e.1 u k ∙ f v w e.0
]

module _ (g : Graph) (U : VertexSet) (p : Player) where
  stays_there : (v w : ℕ) → Among (KeptEdge g p (loops g U p) itself) (In (loops g U p)) v w → w ≡ v
  stays_there v w (k, i, j) = search (rules, kept_leads, choice_leads, loop_from_test, not_both)

  good : (walk : List ℕ) → ClosedWalk (KeptEdge g p (loops g U p) itself) walk → of_parity (greatest_priority g walk) ≡ p
  good [] c = absurd c
  good (v ∷ vs) c =
      let d = closed_inside (KeptEdge g p (loops g U p) itself) (In (loops g U p)) (λ a b k. k.0) (v ∷ vs) c in
      let same = one_vertex (Among (KeptEdge g p (loops g U p) itself) (In (loops g U p))) stays_there v vs v d in
      let e = greatest_reached g (priority_of g v) (v ∷ vs) (λ u m. rw (same u m) (omega arith)) v (Contains-head v vs) refl in
      ap of_parity e ∙ (loop_from_test g U p v (begins vs c)).parity
    where
      begins : (ws : List ℕ) → Walk (KeptEdge g p (loops g U p) itself) v ws v → In (loops g U p) v
      begins [] k = k.0
      begins (w ∷ ws) k = k.0.0

  -- the player holds them, where each is its own choice
  pub loops_held : WinsOn g U p (loops g U p) itself
  loops_held = search (rules, loop_from_test, not_both, good)

module _ (g : Graph) (mask : List Bool) (p : Player) (part : IsPart (record { graph = g; mask = mask })) (rows : ClaimRows)
    (all : rows ≡ rows_below (loops g (members mask) p) (own_choices g p itself) (length g)) where
  inside : (v : ℕ) → In (members mask) v → v < length g
  inside v i = ltb-true v (length g) (part.subgame.vertices v i)

  pub names_loops : (v : ℕ) → named rows v ≡ loops g (members mask) p v
  names_loops v =
      ap (λ (xs : ClaimRows). named xs v) all ∙ rows_named g (members mask) p (loops g (members mask) p) itself (loops_held g (members mask) p) inside v

  pub exactly_loops : (v : ℕ) → In (named rows) v ↔ IsLoop g (members mask) p v
  exactly_loops v = (λ m. loop_from_test g (members mask) p v (sym (names_loops v) ∙ m), λ h. names_loops v ∙ test_from_loop g (members mask) p v h)

  pub chooses_itself : (v : ℕ) → In (named rows) v → owner_of g v ≡ p → choice_in rows v ≡ Some v
  chooses_itself v m o =
      let f = rows_of_below (loops g (members mask) p) (own_choices g p itself) (length g) in
      let n : named (rows_below (loops g (members mask) p) (own_choices g p itself) (length g)) v ≡ true =
      subst (λ (xs : ClaimRows). named xs v ≡ true) all m in
      ap (λ (xs : ClaimRows). choice_in xs v) all ∙ (f.choice v n ∙ rw (is_same (owner_of g v) p o) refl)

  pub loops_good : 0 < length rows → IsGoodIn g (members mask) p rows
  loops_good n =
      subst (IsGoodIn g (members mask) p) (sym all) (good_rows g (members mask) p (loops g (members mask) p) itself (loops_held g (members mask) p) inside
      (subst (λ (xs : ClaimRows). 0 < length xs) all n))

  pub no_loops : rows ≡ [] → (v : ℕ) → IsLoop g (members mask) p v → ⊥
  no_loops e v h =
      let m : named rows v ≡ true = names_loops v ∙ test_from_loop g (members mask) p v h in
      let z : false ≡ true = subst (λ (xs : ClaimRows). named xs v ≡ true) e m in
      cc z

-- a length that is not 0
pub positive : (n k : ℕ) → (n == 0) ≡ false → n ≡ k → 0 < k
positive zero k e q = absurd (cc e)
positive (suc n) k e q = omega (arith, q)
