-- A text is read in stages, each of which has its own kind of fault: so a text has at most one.
use Rattle.pg_text.proofs.Common.{◌≡◌, ℕ, zero, suc, ◌<◌, ◌≤◌, ◌⊎◌, inl, inr, arith, rules, cases_lt}

-- what has passed a stage has passed the earlier ones
module _ (Passed : ℕ → Type 0) (before : (n : ℕ) → Passed (suc n) → Passed n) where
  earlier : (m n : ℕ) → m ≤ n → Passed n → Passed m
  earlier m zero l p = let e : m ≡ 0 = omega arith in rw e p
  earlier m (suc n) l p = elim (cases_lt m (suc n)) [
    | inl h ↦ earlier m n (omega arith) (before n p)
    | inr h ↦ (let e : m ≡ suc n = omega arith in rw e p)
  ]

  -- a fault says which stages were passed, and that the next was not; want of memory says nothing of the text
  module _ {Fault : Type 0} (memory : Fault) (stage : Fault → ℕ) (IsFault : Fault → Type 0)
      (passed : (e : Fault) → IsFault e → Passed (stage e)) (stopped : (e : Fault) → IsFault e → Passed (suc (stage e)) → e ≡ memory) where
    pub no_fault : (n : ℕ) (e : Fault) → Passed n → stage e < n → IsFault e → e ≡ memory
    no_fault n e p l a = stopped e a (earlier (suc (stage e)) n l p)

    pub one_fault_of : ((e f : Fault) → stage e ≡ stage f → IsFault e → IsFault f → (e ≡ memory) ⊎ ((f ≡ memory) ⊎ (e ≡ f)))
        → (e f : Fault) → IsFault e → IsFault f → (e ≡ memory) ⊎ ((f ≡ memory) ⊎ (e ≡ f))
    one_fault_of same e f a b = search (rules, cases_lt, no_fault)
