-- Rows that are checked by themselves and agree with a game are a sound claim of it.
use Rattle.pg_dominion.proofs.Common.{◌≡◌, ◌≢◌, ℕ, zero, suc, Bool, true, false, inl, inr, List, [], ◌∷◌, length, map, refl, sym, ◌∙◌, ap, arith, rules, ◌==◌}
use Rattle.pg_dominion.proofs.Common.{subst, Contains, AllByRecursion, eqb-true, cases_Bool, Player, same_player, of_parity, Graph, priority_of, In, Choices, KeptEdge}
use Rattle.pg_dominion.proofs.Common.{kept, Walk, ClosedWalk, greatest, greatest_priority, same_is, is_same, ClosedWalk-weaker, CheckedRow, named, choice_in}
use Rattle.pg_dominion.proofs.Common.{IsRightRow, IsSound, claim_row, claim_rows, AgreesAt, AgreesWithGame, RowEdge, row_priority, AreChecked}
use Rattle.std.proofs.Common.{max}

pub other_is : (q p : Player) → same_player q p ≡ false → q ≢ p
other_is q p e h = cc (is_same q p h, e)

module _ (g : Graph) (p : Player) where
  record Found (rows : List CheckedRow) (v : ℕ) : Type 0 where
    row : CheckedRow
    listed : Contains rows row
    vertex : row.vertex ≡ v
    agrees : AgreesAt g p row
    choice : choice_in (claim_rows p rows) v ≡ (claim_row p row).1
    priority : row_priority rows v ≡ row.priority

  found : (rows : List CheckedRow) → AgreesWithGame g p rows → (v : ℕ) → In (named (claim_rows p rows)) v → Found rows v
  found [] a v i = absurd (cc i)
  found (r ∷ rows) a v i = elim (cases_Bool (r.vertex == v)) [
    | inl e ↦ record {
      row = r;
      listed = (zero, omega arith, refl);
      vertex = eqb-true r.vertex v e;
      agrees = a.0;
      choice = rw e refl;
      priority = rw e refl;
    }
    | inr e ↦ (let j : In (named (claim_rows p rows)) v = rw e at i in
        let f = found rows a.1 v j in
        record {
          row = f.row;
          listed = (suc f.listed.0, (let l = f.listed.1 in omega (arith, l)), f.listed.2);
          vertex = f.vertex;
          agrees = f.agrees;
          choice = rw e f.choice;
          priority = rw e f.priority;
        })
  ]

  -- an edge that the claim of the rows keeps
  abbrev pub ClaimEdge : List CheckedRow → ℕ → ℕ → Type 0
  ClaimEdge rows = KeptEdge g p (named (claim_rows p rows)) (choice_in (claim_rows p rows))

  pub kept_cases : (s : Choices) (r : CheckedRow) → AgreesAt g p r → s r.vertex ≡ (claim_row p r).1 → (b : Bool) → same_player r.owner p ≡ b
      → kept g p s r.vertex ≡ r.kept
  kept_cases s r a e true c = search (rules, a.own, same_is, r.owner, r.vertex, a.owner, r.kept)
  kept_cases s r a e false c = search (rules, r.vertex, a.owner, a.other, other_is, r.owner)

  edge : (rows : List CheckedRow) → AgreesWithGame g p rows → (v w : ℕ) → ClaimEdge rows v w → RowEdge rows v w
  edge rows a v w (i, k) =
      let f = found rows a v i in
      let s : Choices = choice_in (claim_rows p rows) in
      let q : kept g p s f.row.vertex ≡ f.row.kept = kept_cases s f.row f.agrees (ap s f.vertex ∙ f.choice) (same_player f.row.owner p) refl in
      record {
        row = f.row;
        listed = f.listed;
        from = f.vertex;
        to = subst (λ (ws : List ℕ). Contains ws w) q (subst (λ (u : ℕ). Contains (kept g p s u) w) (sym f.vertex) k);
      }

  priority : (rows : List CheckedRow) → AgreesWithGame g p rows → (v : ℕ) → In (named (claim_rows p rows)) v → row_priority rows v ≡ priority_of g v
  priority rows a v i = let f = found rows a v i in f.priority ∙ (f.agrees.priority ∙ ap (priority_of g) f.vertex)

  pub walk_priority : (rows : List CheckedRow) → AgreesWithGame g p rows → (v : ℕ) (vs : List ℕ) (last : ℕ) → Walk (ClaimEdge rows) v vs last
      → greatest (row_priority rows) (v ∷ vs) ≡ greatest_priority g (v ∷ vs)
  walk_priority rows a v [] last e = ap (λ n. max n 0) (priority rows a v e.0)
  walk_priority rows a v (w ∷ ws) last (e, r) = search (rules, walk_priority rows a w ws last r, priority)

  pub vertices : (rows : List CheckedRow) → map (λ r. r.0) (claim_rows p rows) ≡ map (λ r. r.vertex) rows
  vertices [] = refl
  vertices (r ∷ rows) = ap (λ ns. r.vertex ∷ ns) (vertices rows)

  pub lengths : (rows : List CheckedRow) → length (claim_rows p rows) ≡ length rows
  lengths [] = refl
  lengths (r ∷ rows) = ap suc (lengths rows)

  right_cases : (r : CheckedRow) → AgreesAt g p r → (b : Bool) → same_player r.owner p ≡ b → IsRightRow g p (claim_row p r)
  right_cases r a true c = search (rules, a.own, same_is, r.owner, a.vertex, a.owner)
  right_cases r a false c = search (rules, a.vertex, other_is, r.owner, a.owner)

  rights : (rows : List CheckedRow) → AgreesWithGame g p rows → AllByRecursion (IsRightRow g p) (claim_rows p rows)
  rights [] a = tt
  rights (r ∷ rows) a = (right_cases r a.0 (same_player r.owner p) refl, rights rows a.1)

  good_walk : (rows : List CheckedRow) → AreChecked p rows → AgreesWithGame g p rows → (walk : List ℕ) → ClosedWalk (ClaimEdge rows) walk
      → of_parity (greatest_priority g walk) ≡ p
  good_walk rows c a [] w = absurd w
  good_walk rows c a (v ∷ vs) w =
      let h = c.good (v ∷ vs) (ClosedWalk-weaker (ClaimEdge rows) (RowEdge rows) (edge rows a) (v ∷ vs) w) in
      ap of_parity (sym (walk_priority rows a v vs v w)) ∙ h

  pub sound : (rows : List CheckedRow) → AreChecked p rows → AgreesWithGame g p rows → IsSound g p (claim_rows p rows)
  sound rows c a = search (rules, lengths, rights, vertices, good_walk)
