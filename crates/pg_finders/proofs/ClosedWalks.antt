-- Closed walks: what holds of each vertex, sets that no edge leaves, ranks that fall.
use Rattle.pg_finders.proofs.Common.{◌≡◌, ℕ, zero, suc, ◌<◌, ◌≤◌, Bool, true, false, ◌⊎◌, inl, inr, List, [], ◌∷◌, refl, sym, ◌∙◌, ap, arith, Contains, Player}
use Rattle.pg_finders.proofs.Common.{of_parity, Graph, priority_of, VertexSet, In, Walk, ClosedWalk, greatest_priority, Contains-head, Contains-tail}
use Rattle.pg_finders.proofs.Common.{Contains-cons, Contains-nil, ClosedWalk-weaker}
use Rattle.pg_game.proofs.GrownRegions.{OnLevel, one_level}

-- an edge between vertices that have the property
abbrev pub Among : (ℕ → ℕ → Type 0) → (ℕ → Type 0) → ℕ → ℕ → Type 0
Among E P v w = E v w × P v × P w

walk_among : (E : ℕ → ℕ → Type 0) (P : ℕ → Type 0) (v : ℕ) (ws : List ℕ) (last : ℕ) → Walk E v ws last → P v → ((u : ℕ) → Contains ws u → P u) → P last
    → Walk (Among E P) v ws last
walk_among E P v [] last e a h b = (e, a, b)
walk_among E P v (w ∷ ws) last e a h b =
    let c = h w (Contains-head w ws) in
    ((e.0, a, c), walk_among E P w ws last e.1 c (λ u m. h u (Contains-tail w u ws m)) b)

-- a closed walk whose vertices have a property is one of edges between such vertices
pub closed_among : (E : ℕ → ℕ → Type 0) (P : ℕ → Type 0) (walk : List ℕ) → ClosedWalk E walk → ((u : ℕ) → Contains walk u → P u) → ClosedWalk (Among E P) walk
closed_among E P [] c h = c
closed_among E P (v ∷ vs) c h =
    let a = h v (Contains-head v vs) in
    walk_among E P v vs v c a (λ u m. h u (Contains-tail v u vs m)) a

walk_begins : (E : ℕ → ℕ → Type 0) (P : ℕ → Type 0) → ((v w : ℕ) → E v w → P v) → (v : ℕ) (ws : List ℕ) (last : ℕ) → Walk E v ws last → (u : ℕ)
    → Contains (v ∷ ws) u → P u
walk_begins E P f v [] last e u m = elim (Contains-cons v u [] m) [ inl q ↦ rw (← q) (f v last e) | inr n ↦ absurd (Contains-nil u n) ]
walk_begins E P f v (w ∷ ws) last e u m = elim (Contains-cons v u (w ∷ ws) m) [ inl q ↦ rw (← q) (f v w e.0) | inr n ↦ walk_begins E P f w ws last e.1 u n ]

-- each vertex of a closed walk begins an edge
pub closed_begins : (E : ℕ → ℕ → Type 0) (P : ℕ → Type 0) → ((v w : ℕ) → E v w → P v) → (walk : List ℕ) → ClosedWalk E walk → (u : ℕ) → Contains walk u → P u
closed_begins E P f [] c u m = absurd c
closed_begins E P f (v ∷ vs) c u m = walk_begins E P f v vs v c u m

-- so where each edge begins in a set, both its ends are there
pub closed_inside : (E : ℕ → ℕ → Type 0) (P : ℕ → Type 0) → ((v w : ℕ) → E v w → P v) → (walk : List ℕ) → ClosedWalk E walk → ClosedWalk (Among E P) walk
closed_inside E P f walk c = closed_among E P walk c (closed_begins E P f walk c)

abbrev height : Bool → ℕ
height true = 0
height false = 1

-- a closed walk lies in a set that no edge leaves, or outside it
pub in_or_out : (E : ℕ → ℕ → Type 0) (X : VertexSet) → ((v w : ℕ) → E v w → In X v → In X w) → (walk : List ℕ) → ClosedWalk E walk
    → ClosedWalk (Among E (In X)) walk ⊎ ClosedWalk (Among E (λ v. X v ≡ false)) walk
in_or_out E X stays walk c = let h = one_level E (λ v. height (X v)) falls walk c in split h.0 h.1
  where
    low : (a b : Bool) → (a ≡ true → b ≡ true) → height b ≤ height a
    low true b f = rw (f refl) (omega arith)
    low false true f = omega arith
    low false false f = omega arith

    falls : (v w : ℕ) → E v w → height (X w) ≤ height (X v)
    falls v w e = low (X v) (X w) (stays v w e)

    zero_in : (b : Bool) → height b ≡ 0 → b ≡ true
    zero_in true e = refl
    zero_in false e = absurd (omega (arith, e))

    one_out : (k : ℕ) (b : Bool) → height b ≡ suc k → b ≡ false
    one_out k true e = absurd (omega (arith, e))
    one_out k false e = refl

    split : (k : ℕ) → ClosedWalk (OnLevel E (λ v. height (X v)) k) walk → ClosedWalk (Among E (In X)) walk ⊎ ClosedWalk (Among E (λ v. X v ≡ false)) walk
    split zero d = inl (ClosedWalk-weaker (OnLevel E (λ v. height (X v)) 0) (Among E (In X)) (λ v w e. (e.0, zero_in (X v) e.1, zero_in (X w) e.2)) walk d)
    split (suc k) d =
        inr (ClosedWalk-weaker (OnLevel E (λ v. height (X v)) (suc k)) (Among E (λ v. X v ≡ false))
        (λ v w e. (e.0, one_out k (X v) e.1, one_out k (X w) e.2)) walk d)

-- no closed walk has an edge from a vertex of no set
pub never_empty : (E : ℕ → ℕ → Type 0) → ((v w : ℕ) → E v w → ⊥) → (walk : List ℕ) → ClosedWalk E walk → ⊥
never_empty E f [] e = e
never_empty E f (v ∷ []) e = f v v e
never_empty E f (v ∷ w ∷ ws) e = f v w e.0

-- nor has one falling ranks
pub never_falls : (E : ℕ → ℕ → Type 0) (rank : ℕ → ℕ) → ((v w : ℕ) → E v w → rank w < rank v) → (walk : List ℕ) → ClosedWalk E walk → ⊥
never_falls E rank falls walk c =
    let h = one_level E rank (λ v w e. omega (arith, falls v w e)) walk c in
    never_empty (OnLevel E rank h.0) (λ v w e. omega (arith, falls v w e.0, e.1, e.2)) walk h.1

-- the greatest priority, where it is a bound that some vertex reaches
pub greatest_reached : (g : Graph) (d : ℕ) (walk : List ℕ) → ((u : ℕ) → Contains walk u → priority_of g u ≤ d) → (v : ℕ) → Contains walk v
    → priority_of g v ≡ d → greatest_priority g walk ≡ d
greatest_reached g d walk below v m e = omega (arith, bounded walk below, reaches walk m)
  where
    bounded : (ws : List ℕ) → ((u : ℕ) → Contains ws u → priority_of g u ≤ d) → greatest_priority g ws ≤ d
    bounded [] h = omega arith
    bounded (w ∷ ws) h = omega (arith, h w (Contains-head w ws), bounded ws (λ u n. h u (Contains-tail w u ws n)))

    reaches : (ws : List ℕ) → Contains ws v → d ≤ greatest_priority g ws
    reaches [] n = absurd (Contains-nil v n)
    reaches (w ∷ ws) n = elim (Contains-cons w v ws n) [
      | inl q ↦ (let h : priority_of g w ≡ d = rw q e in omega (arith, h))
      | inr k ↦ omega (arith, reaches ws k)
    ]

-- some vertex of a list has its greatest priority
attained : (g : Graph) (w : ℕ) (ws : List ℕ) → (u : ℕ) × Contains (w ∷ ws) u × (priority_of g u ≡ greatest_priority g (w ∷ ws))
attained g w [] = (w, Contains-head w [], omega arith)
attained g w (x ∷ xs) =
    let h = attained g x xs in
    elim (above (priority_of g w) (greatest_priority g (x ∷ xs))) [
      | inl l ↦ (h.0, Contains-tail w h.0 (x ∷ xs) h.1, omega (arith, h.2, l))
      | inr l ↦ (w, Contains-head w (x ∷ xs), omega (arith, l))
    ]
  where
    above : (a b : ℕ) → (a ≤ b) ⊎ (b ≤ a)
    above a b = grind arith

-- the greatest priority, where all that is at least that of some vertex has the player's parity
pub greatest_kept : (g : Graph) (p : Player) (walk : List ℕ) (t : ℕ) → Contains walk t
    → ((u : ℕ) → Contains walk u → priority_of g t ≤ priority_of g u → of_parity (priority_of g u) ≡ p) → of_parity (greatest_priority g walk) ≡ p
greatest_kept g p [] t m good = absurd (Contains-nil t m)
greatest_kept g p (w ∷ ws) t m good =
    let h = attained g w ws in
    let l : priority_of g t ≤ greatest_priority g (w ∷ ws) = reaches (w ∷ ws) m in
    sym (ap of_parity h.2) ∙ good h.0 h.1 (omega (arith, l, h.2))
  where
    reaches : (vs : List ℕ) → Contains vs t → priority_of g t ≤ greatest_priority g vs
    reaches [] n = absurd (Contains-nil t n)
    reaches (v ∷ vs) n = elim (Contains-cons v t vs n) [
      | inl q ↦ (let e : priority_of g v ≡ priority_of g t = ap (priority_of g) q in omega (arith, e))
      | inr k ↦ omega (arith, reaches vs k)
    ]
