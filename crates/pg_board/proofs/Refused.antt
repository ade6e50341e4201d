-- A refusal of a board, through the lock.
use Rattle.pg_board.proofs.Common.{◌≡◌, ℕ, sym, subst, Err, Result, Posted, Refusal}
use Rattle.pg_board.specs.Office.{Through}

pub refused_through : (Answers : Result Posted Refusal → Type 0) (a : Result Posted Refusal) (r : Result ℕ Refusal) (e : Refusal) → a ≡ Err e → r ≡ Err e
    → Answers a → Through Answers r
refused_through Answers a r e was is h = subst (λ (q : Result ℕ Refusal). Through Answers q) (sym is) (subst Answers was h)
