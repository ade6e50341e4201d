-- A lawful journal with an entry that answers a good claim is lawful.
use Rattle.pg_board.proofs.Common.{rules, ◌≡◌, ℕ, zero, suc, ◌≤◌, ◌⊎◌, inl, inr, [], ◌∷◌, ◌++◌, length, take, refl, sym, ◌∙◌, ap, subst, arith, Some, slice_get}
use Rattle.pg_board.proofs.Common.{nat_eq, IsDistinct, take-append-le, append-nil, map-append, slice_get_within, take-length, Player, Graph, ClaimRows, Entry}
use Rattle.pg_board.proofs.Common.{State, IsGoodOn, is_unsettled, Journal, state_of, claimed_rows, Answers, IsLawful, vertices}
use Rattle.std.proofs.lemmas.Grind.{flat_map-append}
use Rattle.pg_board.proofs.Distinct.{AllRows, distinct-append, each_settled}
use Rattle.pg_board.proofs.PushedEntry.{IsAdded, lawful_state, own_claim_good, own_claim_answered, once_rows, each_open}

last_cases : (j : Journal) (e f : Entry) (k : ℕ) → slice_get (j ++ e ∷ []) k ≡ Some f → (slice_get j k ≡ Some f) ⊎ ((k ≡ length j) × (e ≡ f))
last_cases [] e f zero h = inr (refl, cc h)
last_cases [] e f (suc k) h = absurd (cc h)
last_cases (x ∷ xs) e f zero h = inl h
last_cases (x ∷ xs) e f (suc k) h = elim (last_cases xs e f k h) [ inl a ↦ inl a | inr (a, b) ↦ inr (ap suc a, b) ]

pub length-snoc : (j : Journal) (e : Entry) → length (j ++ e ∷ []) ≡ suc (length j)
length-snoc [] e = refl
length-snoc (x ∷ xs) e = ap suc (length-snoc xs e)

module _ {g : Graph} {j : Journal} {p : Player} {rows : ClaimRows} {e : Entry} (added : IsAdded g j p rows e) where
  pub lawful_push : IsLawful g (j ++ e ∷ [])
  lawful_push = record {
    once = subst (IsDistinct nat_eq) (sym all_vertices_are)
        (distinct-append (λ v. is_unsettled (state_of j v)) (vertices (AllRows j)) (vertices e.rows) added.lawful.once (once_rows added) (each_settled j)
        (each_open added));
    good = each_entry (λ st f. IsGoodOn g st f.player (claimed_rows f)) added.lawful.good (own_claim_good added);
    answered = each_entry (λ st f. Answers g st f.player (claimed_rows f) f) added.lawful.answered (own_claim_answered added);
    states = λ k h. elim (split_le k (length j) (subst (λ n. k ≤ n) (length-snoc j e) h)) [
      | inl a ↦ rw (take-append-le k j (e ∷ []) a) (added.lawful.states k a)
      | inr a ↦ rw (a ∙ sym (length-snoc j e), take-length (j ++ e ∷ [])) (lawful_state added)
    ];
  }
    where
      -- what holds of each old entry on its state, and of the new one
      each_entry : (P : State → Entry → Type 0) → ((k : ℕ) (f : Entry) → slice_get j k ≡ Some f → P (state_of (take k j)) f) → P (state_of j) e
          → (k : ℕ) (f : Entry) → slice_get (j ++ e ∷ []) k ≡ Some f → P (state_of (take k (j ++ e ∷ []))) f
      each_entry P old new k f h = search (rules, last_cases, take-append-le, slice_get_within, take-length)

      split_le : (k n : ℕ) → k ≤ suc n → (k ≤ n) ⊎ (k ≡ suc n)
      split_le k n h = grind arith

      all_vertices_are : vertices (AllRows (j ++ e ∷ [])) ≡ vertices (AllRows j) ++ vertices e.rows
      all_vertices_are = search (rules, flat_map-append, append-nil, map-append)
