-- One more row: what the rows name and choose with it, and that they lead in turn. Each named row of right ones is right.
use Rattle.pg_dominion.proofs.Common.{◌≡◌, ◌≢◌, ℕ, true, false, ◌||◌, ◌⊎◌, inl, inr, [], ◌∷◌, ◌++◌, refl, sym, ◌∙◌, ap, subst, rules, or-false, Option, None}
use Rattle.pg_dominion.proofs.Common.{◌==◌, AllByRecursion, eqb-true, eq-eqb, ne_eqb, cases_Bool, or_parts, or_right, Player, Graph, VertexSet, ClaimRows}
use Rattle.pg_dominion.proofs.Common.{named, choice_in, IsRightRow, IsAttractedRow}
use Rattle.pg_dominion.proofs.Named.{named-append}

pub named-push : (xs : ClaimRows) (r : ℕ × Option ℕ) (v : ℕ) → named (xs ++ r ∷ []) v ≡ (named xs v || (r.0 == v))
named-push xs r v = named-append xs (r ∷ []) v ∙ ap (λ b. named xs v || b) (or-false (r.0 == v))

pub named-push_same : (rows : ClaimRows) (r : ℕ × Option ℕ) → named (rows ++ r ∷ []) r.0 ≡ true
named-push_same rows r = named-push rows r r.0 ∙ or_right (named rows r.0) (r.0 == r.0) (eq-eqb r.0 r.0 refl)

pub named-push_other : (rows : ClaimRows) (r : ℕ × Option ℕ) (v : ℕ) → v ≢ r.0 → named (rows ++ r ∷ []) v ≡ named rows v
named-push_other rows r v n = named-push rows r v ∙ (ap (λ b. named rows v || b) (ne_eqb r.0 v (λ q. n (sym q))) ∙ or-false (named rows v))

pub no_push : (before : ClaimRows) (r : ℕ × Option ℕ) (after : ClaimRows) → [] ≡ before ++ r ∷ after → ⊥
no_push [] r after e = cc e
no_push (b ∷ bs) r after e = cc e

-- where the rows are one longer, the row that is looked at is an earlier one or the last
pub split_push : (rows : ClaimRows) (r : ℕ × Option ℕ) (before : ClaimRows) (x : ℕ × Option ℕ) (after : ClaimRows)
    → rows ++ r ∷ [] ≡ before ++ x ∷ after → ((rest : ClaimRows) × (rows ≡ before ++ x ∷ rest)) ⊎ ((before ≡ rows) × (x ≡ r))
split_push [] r [] x after e = inr (refl, cc e)
split_push [] r (b ∷ bs) x after e = absurd (no_push bs x after (cc e))
split_push (y ∷ ys) r [] x after e = inl (ys, let h : y ≡ x = cc e in ap (λ z. z ∷ ys) h)
split_push (y ∷ ys) r (b ∷ bs) x after e =
    let h : y ≡ b = cc e in
    let t : ys ++ r ∷ [] ≡ bs ++ x ∷ after = cc e in
    elim (split_push ys r bs x after t) [
      | inl (rest, q) ↦ inl (rest, cc (h, q))
      | inr (q, s) ↦ inr (cc (h, q), s)
    ]

-- a row that leads to a set leads to every equal set
pub LeadsTo-same : (g : Graph) (p : Player) (U S S' : VertexSet) (r : ℕ × Option ℕ) → ((v : ℕ) → S v ≡ S' v) → IsAttractedRow g p U S r
    → IsAttractedRow g p U S' r
LeadsTo-same g p U S S' r same l = search (rules)

pub choice-none : (rows : ClaimRows) (v : ℕ) → named rows v ≡ false → choice_in rows v ≡ None
choice-none [] v i = refl
choice-none (r ∷ rows) v i = let n = or_parts (r.0 == v) (named rows v) i in rw n.0 (choice-none rows v n.1)

pub choice-push_other : (rows : ClaimRows) (r : ℕ × Option ℕ) (v : ℕ) → (r.0 == v) ≡ false → choice_in (rows ++ r ∷ []) v ≡ choice_in rows v
choice-push_other [] r v e = rw e refl
choice-push_other (x ∷ rows) r v e = elim (cases_Bool (x.0 == v)) [ inl f ↦ rw f refl | inr f ↦ rw f (choice-push_other rows r v e) ]

pub choice-push_same : (rows : ClaimRows) (r : ℕ × Option ℕ) → named rows r.0 ≡ false → choice_in (rows ++ r ∷ []) r.0 ≡ r.1
choice-push_same [] r i = rw (eq-eqb r.0 r.0 refl) refl
choice-push_same (x ∷ rows) r i = let n = or_parts (x.0 == r.0) (named rows r.0) i in rw n.0 (choice-push_same rows r n.1)

-- the row of a named vertex is right
pub named_right : (g : Graph) (p : Player) (rows : ClaimRows) (v : ℕ) → AllByRecursion (IsRightRow g p) rows → named rows v ≡ true
    → IsRightRow g p (v, choice_in rows v)
named_right g p [] v a i = absurd (cc i)
named_right g p (r ∷ rows) v a i = elim (cases_Bool (r.0 == v)) [
  | inl e ↦ rw e (subst (λ (u : ℕ). IsRightRow g p (u, r.1)) (eqb-true r.0 v e) a.0)
  | inr e ↦ (let n : named rows v ≡ true = rw e at i in rw e (named_right g p rows v a.1 n))
]
