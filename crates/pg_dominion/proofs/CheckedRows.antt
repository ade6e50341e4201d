-- Rows that agree with a game in which their claim is sound are checked by themselves.
use Rattle.pg_dominion.proofs.Common.{◌≡◌, ℕ, zero, suc, ◌<◌, false, List, [], ◌∷◌, ◌++◌, length, get_or, map, take, drop, refl, sym, ◌∙◌, ap, subst, arith}
use Rattle.pg_dominion.proofs.Common.{rules, ◌==◌, Contains, AllByRecursion, IsStrictlyIncreasing, eq-eqb, eqb-true, false_from_ne_true, length-map}
use Rattle.pg_dominion.proofs.Common.{take-append-drop, Player, same_player, of_parity, Graph, In, kept, ClosedWalk, greatest, ClosedWalk-weaker, CheckedRow}
use Rattle.pg_dominion.proofs.Common.{named, choice_in, IsSound, claim_row, claim_rows, AgreesAt, AgreesWithGame, RowEdge, row_priority, AreChecked}
use Rattle.std.proofs.Common.{drop-cons}
use Rattle.std.specs.List.{AllPairs}
use Rattle.std.proofs.lemmas.List.{get_or-map}
use Rattle.std.proofs.lemmas.List.Kept.{AllPairs-from_increasing}
use Rattle.pg_dominion.specs.Checked.{KeepsOne, IsForeign}
use Rattle.pg_dominion.proofs.AgreeingRows.{ClaimEdge, kept_cases, walk_priority, vertices, lengths}

-- each row's vertex is below those of later rows
abbrev Rise : List CheckedRow → Type 0
Rise rows = AllPairs (λ a b. a.vertex < b.vertex) rows

rise : (rows : List CheckedRow) → IsStrictlyIncreasing (map (λ r. r.vertex) rows) → Rise rows
rise rows up i j d l m =
    let h = AllPairs-from_increasing (map (λ (r : CheckedRow). r.vertex) rows) up i j 0 l (omega (arith, m, length-map rows (λ (r : CheckedRow). r.vertex))) in
    let a = get_or-map (λ (r : CheckedRow). r.vertex) rows i d 0 (omega (arith, l, m)) in
    let b = get_or-map (λ (r : CheckedRow). r.vertex) rows j d 0 m in
    omega (arith, h, a, b)

rise_tail : (x : CheckedRow) (rows : List CheckedRow) → Rise (x ∷ rows) → Rise rows
rise_tail x rows up i j d l m = up (suc i) (suc j) d (omega (arith, l)) (omega (arith, m))

below_later : (x : CheckedRow) (rows : List CheckedRow) (r : CheckedRow) → Rise (x ∷ rows) → Contains rows r → x.vertex < r.vertex
below_later x rows r up (k, l, e) = subst (λ (y : CheckedRow). x.vertex < y.vertex) e (up zero (suc k) r (omega arith) (omega (arith, l)))

module _ (g : Graph) (p : Player) where
  -- the row is the one of its vertex
  record IsOwnRow (rows : List CheckedRow) (r : CheckedRow) : Type 0 where
    names : In (named (claim_rows p rows)) r.vertex
    chooses : choice_in (claim_rows p rows) r.vertex ≡ (claim_row p r).1
    has : row_priority rows r.vertex ≡ r.priority

  own_row : (rows : List CheckedRow) (r : CheckedRow) → Rise rows → Contains rows r → IsOwnRow rows r
  own_row [] r up (k, l, e) = absurd (omega (arith, l))
  own_row (x ∷ rows) r up (zero, l, e) = search (rules, x.vertex, eq-eqb)
  own_row (x ∷ rows) r up (suc k, l, e) =
      let m : Contains rows r = (k, omega (arith, l), e) in
      let f : (x.vertex == r.vertex) ≡ false =
      false_from_ne_true (x.vertex == r.vertex) (λ t. (let q = eqb-true x.vertex r.vertex t in let b = below_later x rows r up m in
      absurd (omega (arith, q, b)))) in
      let h = own_row rows r (rise_tail x rows up) m in
      record { names = rw f h.names; chooses = rw f h.chooses; has = rw f h.has }

  agree_at : (rows : List CheckedRow) (r : CheckedRow) → AgreesWithGame g p rows → Contains rows r → AgreesAt g p r
  agree_at [] r a (k, l, e) = absurd (omega (arith, l))
  agree_at (x ∷ rows) r a (zero, l, e) = subst (λ (y : CheckedRow). AgreesAt g p y) e a.0
  agree_at (x ∷ rows) r a (suc k, l, e) = agree_at rows r a.1 (k, omega (arith, l), e)

  kept_edge : (rows : List CheckedRow) → Rise rows → AgreesWithGame g p rows → (v w : ℕ) → RowEdge rows v w → ClaimEdge g p rows v w
  kept_edge rows up a v w edge =
      let r = edge.row in
      let f = own_row rows r up edge.listed in
      let q : kept g p (choice_in (claim_rows p rows)) r.vertex ≡ r.kept
      = kept_cases g p (choice_in (claim_rows p rows)) r (agree_at rows r a edge.listed) f.chooses (same_player r.owner p) refl in
      subst (λ (u : ℕ). ClaimEdge g p rows u w) edge.from (f.names, subst (λ (ws : List ℕ). Contains ws w) (sym q) edge.to)

  singles : (rows : List CheckedRow) → AgreesWithGame g p rows → AllByRecursion (KeepsOne p) rows
  singles [] a = tt
  singles (r ∷ rows) a = (λ o. (let q = a.0.own o in (q.0, q.1)), singles rows a.1)

  good_walk : (rows : List CheckedRow) → Rise rows → AgreesWithGame g p rows → IsSound g p (claim_rows p rows) → (walk : List ℕ)
      → ClosedWalk (RowEdge rows) walk → of_parity (greatest (row_priority rows) walk) ≡ p
  good_walk rows up a s [] c = absurd c
  good_walk rows up a s (v ∷ vs) c =
      let k = ClosedWalk-weaker (RowEdge rows) (ClaimEdge g p rows) (kept_edge rows up a) (v ∷ vs) c in
      ap of_parity (walk_priority g p rows a v vs v k) ∙ s.good (v ∷ vs) k

  pub checked : (rows : List CheckedRow) → AgreesWithGame g p rows → IsSound g p (claim_rows p rows) → AreChecked p rows
  checked rows a s =
      let up : IsStrictlyIncreasing (map (λ r. r.vertex) rows)
      = subst (λ (xs : List ℕ). IsStrictlyIncreasing xs) (vertices g p rows) s.shape.right.rising in
      record {
        nonempty = subst (λ (n : ℕ). 0 < n) (lengths g p rows) s.shape.nonempty;
        rising = up;
        single = singles rows a;
        good = good_walk rows (rise rows up) a s;
      }

  -- the first row that does not agree, by its place
  pub foreign_at : (rows : List CheckedRow) (i : ℕ) (d : CheckedRow) → i < length rows → AgreesWithGame g p (take i rows)
      → (AgreesAt g p (get_or rows i d) → ⊥) → IsForeign g p rows (get_or rows i d).vertex
  foreign_at rows i d l a n = record {
    before = take i rows;
    after = drop (suc i) rows;
    row = get_or rows i d;
    split = sym (take-append-drop i rows) ∙ ap (λ (xs : List CheckedRow). take i rows ++ xs) (drop-cons rows i d l);
    agree = a;
    differs = n;
    vertex = refl;
  }

-- the same, of the list that a loop goes over
pub foreign_here : (g : Graph) (p : Player) (rows items : List CheckedRow) → items ≡ rows → (i : ℕ) (r : CheckedRow) → i < length items
    → r ≡ get_or items i r → AgreesWithGame g p (take i items) → (AgreesAt g p r → ⊥) → IsForeign g p rows r.vertex
foreign_here g p rows items same i r l e a n =
    let h = foreign_at g p items i r l a (λ q. n (subst (λ (y : CheckedRow). AgreesAt g p y) (sym e) q)) in
    subst (λ (zs : List CheckedRow). IsForeign g p zs r.vertex) same (subst (λ (y : CheckedRow). IsForeign g p items y.vertex) (sym e) h)
