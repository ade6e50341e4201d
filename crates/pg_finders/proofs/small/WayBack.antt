-- A search for a walk back over a few rows: its steps, and what it says in the end.
use Rattle.pg_finders.proofs.Common.{◌≡◌, ◌≢◌, ℕ, ◌+◌, ◌<◌, ◌≤◌, Bool, false, inl, inr, List, [], ◌∷◌, ◌++◌, length, take, set, refl, sym, ◌∙◌, ap, subst, arith}
use Rattle.std.specs.List.{IsDistinct}
use Rattle.pg_finders.proofs.Common.{get_or-set_other, rules, Some, ◌==◌, Contains, cases_eq, eqb-true, eq-eqb, or_cases, row_at, vertices}
use Rattle.pg_finders.proofs.Common.{cases_Bool, Player, opponent, of_parity, Graph, owner_of, priority_of, successors_of, In, members, Choices, kept, KeptEdge}
use Rattle.pg_finders.proofs.Common.{Walk, ClosedWalk, greatest_priority, OnlyGoodWalks, other_from_not, is_same, ClosedWalk-weaker, good_from_none, ClaimRows}
use Rattle.pg_finders.proofs.Common.{named, choice_in, RowLeadsTo, Under, WalksBack, IsFrom, IsReached}
use Rattle.std.specs.Prelude.{IsTrue, nat_eq}
use Rattle.pg_dominion.proofs.SearchSteps.{Walk-push}
use Rattle.pg_finders.proofs.Sets.{not_same, not_both}
use Rattle.pg_finders.proofs.ClosedWalks.{Among, closed_inside}
use Rattle.pg_dominion.proofs.RowsByPlace.{front_named, front_place, named_more, apart_at}
use Rattle.pg_finders.proofs.Masks.{order}

-- where the player chose x, the kept edge leads to x alone
pub leads_some : (g : Graph) (p : Player) (s : Choices) (v x w : ℕ) → owner_of g v ≡ p → s v ≡ Some x
    → (IsTrue (x == w) → Contains (kept g p s v) w) × (Contains (kept g p s v) w → IsTrue (x == w))
leads_some g p s v x w o e = search (rules, is_same, eqb-true, eq-eqb)

pub leads_other : (g : Graph) (p : Player) (s : Choices) (v w : ℕ) → owner_of g v ≢ p → Contains (kept g p s v) w → Contains (successors_of g v) w
leads_other g p s v w o m = search (rules, not_same, other_from_not)

module _ (g : Graph) (p : Player) (rows : ClaimRows) (done : ℕ) (within : done ≤ length rows) where
  edge : (top from to : ℕ) → from < done → to < done → RowLeadsTo g p rows from to → priority_of g (row_at rows to).0 ≤ top
      → Under g p rows done top (row_at rows from).0 (row_at rows to).0
  edge top from to a b m l = ((front_named rows done from within a, m), front_named rows done to within b, l)

  abbrev Way : ℕ → ℕ → Type 0
  Way start k = (ws : List ℕ) × Walk (Under g p rows done (priority_of g (row_at rows start).0)) (row_at rows start).0 ws (row_at rows k).0

  -- a row that is reached has a walk to it
  pub reached_way : (start to : ℕ) (left : List Bool) → start < done → ((k : ℕ) → k < done → members left k ≡ false → Way start k)
      → IsReached g p rows done start left to → Way start to
  reached_way start to left s walks (a, i, l, next) = elim next.2 [
    | inl q ↦ (let z : RowLeadsTo g p rows start to = subst (λ x. RowLeadsTo g p rows x to) q next.3 in
        ([], edge (priority_of g (row_at rows start).0) start to s a z l))
    | inr n ↦ (let h = walks next.0 next.1 n in (
      h.0 ++ (row_at rows next.0).0 ∷ [],
      Walk-push (Under g p rows done (priority_of g (row_at rows start).0)) (row_at rows start).0 h.0 (row_at rows next.0).0 (row_at rows to).0 h.1
          (edge (priority_of g (row_at rows start).0) next.0 to next.1 a next.3 l),
    ))
  ]

  pub ways_push : (start to : ℕ) (left : List Bool) → ((k : ℕ) → k < done → members left k ≡ false → Way start k) → Way start to → (k : ℕ) → k < done
      → members (set left to false) k ≡ false → Way start k
  ways_push start to left walks way k l n = search (rules, cases_eq, get_or-set_other)

  -- where no row is reached any more, a walk from the start ends at a row that is left no more
  ends : (start : ℕ) (left : List Bool) → ((to : ℕ) → IsReached g p rows done start left to → ⊥) → (from : ℕ) → from < done → IsFrom start left from
      → (ws : List ℕ) (end : ℕ) → Walk (Under g p rows done (priority_of g (row_at rows start).0)) (row_at rows from).0 ws end
      → (k : ℕ) × (k < done) × ((row_at rows k).0 ≡ end) × (members left k ≡ false)
  ends start left none from l f ws end walk = go ws from l f walk
    where
      next : (from w : ℕ) → from < done → IsFrom start left from → Under g p rows done (priority_of g (row_at rows start).0) (row_at rows from).0 w
          → (k : ℕ) × (k < done) × ((row_at rows k).0 ≡ w) × (members left k ≡ false)
      next from w l f e =
          let h = front_place rows done w within e.1 in
          let m : RowLeadsTo g p rows from h.0 = subst (λ x. Contains (kept g p (choice_in rows) (row_at rows from).0) x) (sym h.2) e.0.1 in
          let low : priority_of g (row_at rows h.0).0 ≤ priority_of g (row_at rows start).0 =
          subst (λ x. priority_of g x ≤ priority_of g (row_at rows start).0) (sym h.2) e.2 in
          (h.0, h.1, h.2, elim (cases_Bool (members left h.0)) [ inr n ↦ n | inl i ↦ absurd (none h.0 (h.1, i, low, (from, l, f, m))) ])

      go : (ws : List ℕ) (from : ℕ) → from < done → IsFrom start left from
          → Walk (Under g p rows done (priority_of g (row_at rows start).0)) (row_at rows from).0 ws end
          → (k : ℕ) × (k < done) × ((row_at rows k).0 ≡ end) × (members left k ≡ false)
      go [] from l f e = next from end l f e
      go (w ∷ ws) from l f e =
          let h = next from w l f e.0 in
          go ws h.0 h.1 (inr h.3) (subst (λ x. Walk (Under g p rows done (priority_of g (row_at rows start).0)) x ws end) (sym h.2) e.1)

  pub no_way_back : (start : ℕ) (left : List Bool) → IsDistinct nat_eq (vertices rows) → start < done → In (members left) start
      → ((to : ℕ) → IsReached g p rows done start left to → ⊥) → WalksBack g p rows done start → ⊥
  no_way_back start left d s i none (ws, walk) =
      let q = ends start left none start s (inl refl) ws (row_at rows start).0 walk in
      elim (order q.0 start) [
        | inl less ↦ apart_at rows q.0 start d less (omega (arith, s, within)) q.2
        | inr (inl same) ↦ (let n : members left start ≡ false = subst (λ k. members left k ≡ false) same q.3 in cc (i, n))
        | inr (inr more) ↦ apart_at rows start q.0 d more (omega (arith, q.1, within)) (sym q.2)
      ]

  over : (top v : ℕ) (ws : List ℕ) (end : ℕ) → Walk (Under g p rows done top) v ws end
      → Walk (KeptEdge g p (named (take done rows)) (choice_in rows)) v ws end × (greatest_priority g ws ≤ top)
  over top v [] end e = (e.0, omega arith)
  over top v (w ∷ ws) end e = let h = over top w ws end e.1 in ((e.0.0, h.0), omega (arith, h.1, e.0.2))

  under : (top v : ℕ) (ws : List ℕ) (end : ℕ) → Walk
      (Among (KeptEdge g p (named (take done rows)) (choice_in rows)) (In (named (take done rows)))) v ws end → greatest_priority g ws ≤ top
      → priority_of g end ≤ top → Walk (Under g p rows done top) v ws end
  under top v [] end e l m = (e.0, e.2, m)
  under top v (w ∷ ws) end e l m = ((e.0.0, e.0.2, omega (arith, l)), under top w ws end e.1 (omega (arith, l)) m)

  -- a walk back from a bad vertex is a bad closed walk
  pub bad_back : (start : ℕ) → of_parity (priority_of g (row_at rows start).0) ≢ p → WalksBack g p rows done start
      → OnlyGoodWalks g p (named (take done rows)) (choice_in rows) → ⊥
  bad_back start n (ws, walk) good =
      let h = over (priority_of g (row_at rows start).0) (row_at rows start).0 ws (row_at rows start).0 walk in
      let e : greatest_priority g ((row_at rows start).0 ∷ ws) ≡ priority_of g (row_at rows start).0 = omega (arith, h.1) in
      n (ap of_parity (sym e) ∙ good ((row_at rows start).0 ∷ ws) h.0)

  begins : (v : ℕ) (vs : List ℕ) → ClosedWalk (KeptEdge g p (named (take done rows)) (choice_in rows)) (v ∷ vs) → In (named (take done rows)) v
  begins v [] c = c.0
  begins v (w ∷ ws) c = c.0.0

  not_his : (v : ℕ) → of_parity (priority_of g v) ≡ opponent p → of_parity (priority_of g v) ≢ p
  not_his v a b = not_both (of_parity (priority_of g v)) p b a

  -- where no bad row walks back, all closed walks are good
  pub good_back : ((k : ℕ) → k < done → of_parity (priority_of g (row_at rows k).0) ≢ p → WalksBack g p rows done k → ⊥)
      → OnlyGoodWalks g p (named (take done rows)) (choice_in rows)
  good_back none = good_from_none g p (named (take done rows)) (choice_in rows) (λ v b. bad v b.0 b.1 b.2 b.3)
    where
      at_place : (v k : ℕ) → (row_at rows k).0 ≡ v → k < done → of_parity (priority_of g v) ≢ p → (vs : List ℕ)
          → Walk (Under g p rows done (priority_of g v)) v vs v → ⊥
      at_place v k q l n vs walk =
          none k l (subst (λ x. of_parity (priority_of g x) ≢ p) (sym q) n) (vs, subst (λ x. Walk (Under g p rows done (priority_of g x)) x vs x) (sym q) walk)

      bad : (v : ℕ) (vs : List ℕ) → ClosedWalk (KeptEdge g p (named (take done rows)) (choice_in rows)) (v ∷ vs)
          → priority_of g v ≡ greatest_priority g (v ∷ vs) → of_parity (priority_of g v) ≡ opponent p → ⊥
      bad v vs c e b =
          let h = front_place rows done v within (begins v vs c) in
          let d = closed_inside (KeptEdge g p (named (take done rows)) (choice_in rows)) (In (named (take done rows))) (λ a b k. k.0) (v ∷ vs) c in
          at_place v h.0 h.2 h.1 (not_his v b) vs (under (priority_of g v) v vs v d (omega (arith, e)) (omega arith))

-- a row that leads to no earlier one and not to itself closes no walk
pub closes_none : (g : Graph) (p : Player) (rows : ClaimRows) (at : ℕ) → at < length rows → ((to : ℕ) → to ≤ at → RowLeadsTo g p rows at to → ⊥)
    → OnlyGoodWalks g p (named (take at rows)) (choice_in rows) → OnlyGoodWalks g p (named (take (at + 1) rows)) (choice_in rows)
closes_none g p rows at l none good walk c =
    good walk (ClosedWalk-weaker (Among (KeptEdge g p (named (take (at + 1) rows)) (choice_in rows)) (In (named (take (at + 1) rows))))
    (KeptEdge g p (named (take at rows)) (choice_in rows)) earlier walk
    (closed_inside (KeptEdge g p (named (take (at + 1) rows)) (choice_in rows)) (In (named (take (at + 1) rows))) (λ a b k. k.0) walk c))
  where
    earlier : (v w : ℕ) → Among (KeptEdge g p (named (take (at + 1) rows)) (choice_in rows)) (In (named (take (at + 1) rows))) v w
        → KeptEdge g p (named (take at rows)) (choice_in rows) v w
    earlier v w (e, i, j) = elim (or_cases (named (take at rows) v) ((row_at rows at).0 == v) (sym (named_more rows at v l) ∙ i)) [
      | inl y ↦ (y, e.1)
      | inr q ↦ (let h = front_place rows (at + 1) w (omega (arith, l)) j in
          absurd (none h.0 (omega (arith, h.1)) (subst (λ x. Contains (kept g p (choice_in rows) (row_at rows at).0) x) (sym h.2)
          (subst (λ x. Contains (kept g p (choice_in rows) x) w) (sym (eqb-true (row_at rows at).0 v q)) e.1))))
    ]

-- nor does one whose choice is at none of them
pub fresh_closes_none : (g : Graph) (p : Player) (rows : ClaimRows) (at w : ℕ) → at < length rows → owner_of g (row_at rows at).0 ≡ p
    → choice_in rows (row_at rows at).0 ≡ Some w → ((to : ℕ) → to ≤ at → (row_at rows to).0 ≢ w)
    → OnlyGoodWalks g p (named (take at rows)) (choice_in rows) → OnlyGoodWalks g p (named (take (at + 1) rows)) (choice_in rows)
fresh_closes_none g p rows at w l o c away good =
    closes_none g p rows at l (λ to m e. away to m (sym
    (eqb-true w (row_at rows to).0 ((leads_some g p (choice_in rows) (row_at rows at).0 w (row_at rows to).0 o c).1 e)))) good
