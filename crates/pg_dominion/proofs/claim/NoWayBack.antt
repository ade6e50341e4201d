-- A search along a claim's rows that found no way back: there is none.
use Rattle.pg_dominion.proofs.Common.{rules, ◌≡◌, ◌≢◌, ℕ, ◌<◌, ◌≤◌, ◌↔◌, true, false, inl, inr, List, [], ◌∷◌, ◌++◌, length, refl, sym, ◌∙◌, ap}
use Rattle.pg_dominion.proofs.Common.{subst, arith, Option, ◌==◌, Contains, list_any, eqb-true, cases_Bool, Contains-append_left, Player, Graph}
use Rattle.pg_dominion.proofs.Common.{priority_of, In, KeptEdge, kept, Walk, greatest_priority, OnBadWalk, NoneHas, IsLeast, is_same, ClaimRows, named}
use Rattle.pg_dominion.proofs.Common.{choice_in, is_bad, IsRightRow, AllByRecursion, LeadsToListed, AreNamed, or_parts}
use Rattle.pg_dominion.proofs.Common.{ends_at}
use Rattle.std.specs.Prelude.{MatchOption, slice_index}
use Rattle.std.proofs.lemmas.List.{append_assoc}
use Rattle.pg_dominion.specs.Claim.{row_at}
use Rattle.pg_dominion.proofs.RowsByPlace.{place_at}
use Rattle.pg_dominion.proofs.Strategies.{ends_kept}
use Rattle.pg_dominion.proofs.Rows.{named_right}
use Rattle.pg_dominion.proofs.SearchSteps.{place_in, push_each, starts_in}

pub longer_push : (before list : List ℕ) (w : ℕ) → (more : List ℕ) × (list ≡ before ++ more)
    → (more : List ℕ) × (list ++ w ∷ [] ≡ before ++ more)
longer_push before list w (more, e) = (more ++ w ∷ [], ap (λ (xs : List ℕ). xs ++ w ∷ []) e ∙ append_assoc before more (w ∷ []))

pub AreNamed-push : (rows : ClaimRows) (list : List ℕ) (w : ℕ) → AreNamed rows list → In (named rows) w → AreNamed rows (list ++ w ∷ [])
AreNamed-push rows list w all i = push_each (λ k x. In (named rows) x) list w all i

-- what rows name that are right is a vertex
pub named_vertex : (g : Graph) (p : Player) (rows xs : ClaimRows) (v : ℕ) → xs ≡ rows → AllByRecursion (IsRightRow g p) rows → In (named xs) v → v < length g
named_vertex g p rows xs v same right i = (named_right g p rows v right (rw (← same) i)).vertex

module _ (g : Graph) (p : Player) (rows : ClaimRows) where
  -- what a right row keeps is what the claim keeps of its vertex
  pub kept_in_row : (v : ℕ) (c : Option ℕ) → IsRightRow g p (v, c) → choice_in rows v ≡ c → ends_at g v c ≡ kept g p (choice_in rows) v
  kept_in_row v c a e = ends_kept g p (choice_in rows) v c (λ o. let q = a.own o in (q.0, q.1, e ∙ q.1)) a.other

  pub LeadsToListed-from_row : (start : ℕ) (list : List ℕ) (v : ℕ) (ws : List ℕ) (n : ℕ) → ws ≡ kept g p (choice_in rows) v → length ws ≤ n
      → ((i : ℕ) → i < n → In (named rows) (slice_index ws i) → priority_of g (slice_index ws i) ≤ priority_of g start
      → (slice_index ws i ≢ start) × Contains list (slice_index ws i))
      → LeadsToListed g p rows start list v
  LeadsToListed-from_row start list v ws n e l h w edge i low =
      let q = place_in (kept g p (choice_in rows) v) ws w e edge.1 in
      let i' : In (named rows) (slice_index ws q.0) = subst (λ (x : ℕ). In (named rows) x) (sym q.2) i in
      let low' : priority_of g (slice_index ws q.0) ≤ priority_of g start = subst (λ (x : ℕ). priority_of g x ≤ priority_of g start) (sym q.2) low in
      subst (λ (x : ℕ). (x ≢ start) × Contains list x) q.2 (h q.0 (omega (arith, q.1)) i' low')

  pub LeadsToListed-longer : (start : ℕ) (list more : List ℕ) (v : ℕ) → LeadsToListed g p rows start list v → LeadsToListed g p rows start (list ++ more) v
  LeadsToListed-longer start list more v s w e i l = let h = s w e i l in (h.0, Contains-append_left list more w h.1)

  abbrev Own : ℕ → ℕ → Type 0
  Own = KeptEdge g p (named rows) (choice_in rows)

  starts : (v : ℕ) (vs : List ℕ) (last : ℕ) → Walk Own v vs last → In (named rows) v
  starts = starts_in g p (named rows) (choice_in rows)

  -- a walk of no greater priority ends elsewhere
  ends_elsewhere : (start : ℕ) (list : List ℕ) → ((w : ℕ) → Contains list w → LeadsToListed g p rows start list w)
      → (v : ℕ) (vs : List ℕ) (last : ℕ)
      → LeadsToListed g p rows start list v → Walk Own v vs last → greatest_priority g vs ≤ priority_of g start
      → In (named rows) last → priority_of g last ≤ priority_of g start → last ≢ start
  ends_elsewhere start list all v [] last s e low i l = (s last e i l).0
  ends_elsewhere start list all v (w ∷ ws) last s e low i l =
      ends_elsewhere start list all w ws last (all w (s w e.0 (starts w ws last e.1) (omega (arith, low))).1) e.1 (omega (arith, low)) i l

  pub none_returns : (start : ℕ) (list : List ℕ) (n : ℕ) → length list ≤ n → LeadsToListed g p rows start list start
      → ((i : ℕ) → i < n → LeadsToListed g p rows start list (slice_index list i)) → OnBadWalk g p (named rows) (choice_in rows) start → ⊥
  none_returns start list n l first rest (vs, walk, top, parity) =
      let all : (w : ℕ) → Contains list w → LeadsToListed g p rows start list w
      = λ w c. (let q = place_in list list w refl c in subst (λ (x : ℕ). LeadsToListed g p rows start list x) q.2 (rest q.0 (omega (arith, q.1)))) in
      ends_elsewhere start list all start vs start first walk (omega (arith, top)) (starts start vs start walk) (omega arith) refl

  -- none where no bad vertex of a row is the greatest on a closed walk
  pub none_from_rows : (xs : ClaimRows) (n : ℕ) → xs ≡ rows → length xs ≤ n
      → ((i : ℕ) → i < n → is_bad g p (row_at xs i).0 ≡ true → OnBadWalk g p (named rows) (choice_in rows) (row_at xs i).0 → ⊥)
      → NoneHas (OnBadWalk g p (named rows) (choice_in rows))
  none_from_rows xs n e l h v (vs, walk, top, parity) = search (rules, is_same, place_at, starts)

named_good : (g : Graph) (p : Player) (rows : ClaimRows) → list_any (λ r. is_bad g p r.0) rows ≡ false → (v : ℕ) → In (named rows) v
    → is_bad g p v ≡ false
named_good g p [] e v y = absurd (cc y)
named_good g p (r ∷ rows) e v y = let both = or_parts (is_bad g p r.0) (list_any (λ r. is_bad g p r.0) rows) e in elim (cases_Bool (r.0 == v)) [
  | inl t ↦ subst (λ (u : ℕ). is_bad g p u ≡ false) (eqb-true r.0 v t) both.0
  | inr f ↦ named_good g p rows both.1 v (rw f at y)
]

-- a claim that names no vertex of the opponent's parity
pub none_on_bad_walk : (g : Graph) (p : Player) (rows : ClaimRows) → list_any (λ r. is_bad g p r.0) rows ≡ false
    → NoneHas (OnBadWalk g p (named rows) (choice_in rows))
none_on_bad_walk g p rows e v (vs, walk, top, parity) = search (rules, named_good, starts_in, is_same)

-- what is said of one property as of another
pub same_least : (P Q : ℕ → Type 0) → ((v : ℕ) → P v ↔ Q v) → (least : Option ℕ) → MatchOption least (NoneHas P) (IsLeast P)
    → MatchOption least (NoneHas Q) (IsLeast Q)
same_least x0 x1 same x3 h = search (rules)
